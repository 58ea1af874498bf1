-- What a call that may be refused answers, and what it leaves.
use Rattle.std.specs.Prelude.{◌≡◌, Some, None, Ok, Err, Option, Result, MatchResult}
use Rattle.plan.specs.declared.tables.Tables.{Tables}

-- where there is no reason to refuse it, it is done; else it answers the reason
abbrev pub answered : {E : Type 0} → Option E → Result (Unit {0}) E
answered None = Ok tt
answered (Some why) = Err why

-- it leaves what it makes, or, refused, what was there before
abbrev pub unless_refused : {E : Type 0} → Option E → Tables → Tables → Tables
unless_refused None before after = after
unless_refused (Some why) before after = before

-- what a check answers is the first reason, if there is one
abbrev pub Finds : {E : Type 0} → Option E → Result (Unit {0}) E → Type 0
Finds reason result = MatchResult result (λ _. reason ≡ None) (λ why. reason ≡ Some why)
