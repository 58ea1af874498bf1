-- Lifting an amount, and setting it down.
use Rattle.std.specs.Prelude.{◌≡◌, ℕ, Bool, true, false, if◌then◌else◌, ◌&&◌, List, is_some, Some, None, Ok, Err, Option, Result, ◌==◌, nat_le, slice_set}
use Rattle.plan.specs.declared.place.Place.{Place}
use Rattle.plan.specs.declared.place.Place.TheVariants.{OwnPenalty, Row}
use Rattle.plan.specs.declared.refusals.Refusal.{Refusal}
use Rattle.plan.specs.declared.refusals.Refusal.TheVariants.{Absent, AmountOutOfRange, HandNotEmpty, NotInHand}
use Rattle.plan.specs.declared.tables.Hand.{Hand}
use Rattle.plan.specs.declared.tables.Tables.{Tables}
use Rattle.plan.specs.declared.token.Token.{Token}
use Rattle.plan.specs.Refusing.{unless_refused}
use Rattle.plan.specs.Invariant.{Sound}
use Rattle.plan.specs.Layout.{candidate_place, own_of, is_there, is_open}
use Rattle.plan.specs.Rows.{is_at, row_least, row_changed}

-- other own penalties; other cells; another hand
abbrev pub with_own_list : Tables → List ℕ → Tables
with_own_list x own = record {
  entries = record { number = x.entries.number; counts = x.entries.counts; own = own; marks = x.entries.marks };
  pairs = x.pairs;
  limits = x.limits;
  hand = x.hand;
}

abbrev pub with_cell_list : Tables → List ℕ → Tables
with_cell_list x cells = record {
  entries = x.entries;
  pairs = record { number = x.pairs.number; ends = x.pairs.ends; cells = cells };
  limits = x.limits;
  hand = x.hand;
}

abbrev pub with_hand : Tables → Option Hand → Tables
with_hand x hand = record { entries = x.entries; pairs = x.pairs; limits = x.limits; hand = hand }

-- each number at the candidate c of the entry e, in its own penalty or in a row at it, becomes g of what it was
abbrev pub adjusted : (ℕ → ℕ) → Tables → ℕ → ℕ → Place → Tables
adjusted g x e c OwnPenalty = with_own_list x (slice_set x.entries.own (candidate_place e c) (g (own_of x e c)))
adjusted g x e c (Row p) = with_cell_list x (row_changed g x e c p)

-- the place is at the entry e
abbrev pub is_place : Tables → ℕ → Place → Bool
is_place x e OwnPenalty = true
is_place x e (Row p) = is_at x e p

-- in sound tables the candidate c of the entry e is there, and the place is at the entry
pub record CanAdjust (x : Tables) (e c : ℕ) (place : Place) : Type 0 where
  pub sound : Sound x
  pub there : is_there x e c ≡ true
  pub at : is_place x e place ≡ true

-- the largest amount: the least number drawn on
abbrev pub largest_amount : Tables → ℕ → ℕ → Place → ℕ
largest_amount x e c OwnPenalty = own_of x e c
largest_amount x e c (Row p) = row_least x e c p

-- why an amount is not lifted, if it is not
abbrev pub lift_refusal : Tables → Place → ℕ → ℕ → ℕ → Option Refusal
lift_refusal x from e c amount =
    if is_some x.hand then Some HandNotEmpty
    else if is_open x e c && is_place x e from then
    (if nat_le 1 amount && nat_le amount (largest_amount x e c from) then None else Some AmountOutOfRange)
    else Some Absent

-- the amount is taken off each number drawn on, and is in hand
abbrev pub lifted : (ℕ → ℕ → ℕ) → Tables → Place → ℕ → ℕ → ℕ → Tables
lifted rest x from e c amount = with_hand (adjusted (λ v. rest v amount) x e c from) (Some (record { entry = e; candidate = c; amount = amount }))

abbrev pub lift_token : ℕ → ℕ → ℕ → Token
lift_token e c amount = record { held = record { entry = e; candidate = c; amount = amount }; spent = false }

abbrev pub given : Option Refusal → Token → Result Token Refusal
given None token = Ok token
given (Some why) token = Err why

abbrev pub lift_answer : Tables → Place → ℕ → ℕ → ℕ → Result Token Refusal
lift_answer x from e c amount = given (lift_refusal x from e c amount) (lift_token e c amount)

abbrev pub lift_after : (ℕ → ℕ → ℕ) → Tables → Place → ℕ → ℕ → ℕ → Tables
lift_after rest x from e c amount = unless_refused (lift_refusal x from e c amount) x (lifted rest x from e c amount)

-- a token is what is in hand
abbrev pub is_in_hand : Option Hand → ℕ → ℕ → ℕ → Bool
is_in_hand None e c amount = false
is_in_hand (Some h) e c amount = h.entry == e && (h.candidate == c && h.amount == amount)

-- why an amount is not set down, if it is not
abbrev pub set_refusal : Tables → ℕ → ℕ → ℕ → Place → Option Refusal
set_refusal x e c amount to = if is_in_hand x.hand e c amount then (if is_place x e to then None else Some Absent) else Some NotInHand

-- the amount is joined to each number, and the hand is empty
abbrev pub set_down_in : (ℕ → ℕ → ℕ) → Tables → ℕ → ℕ → ℕ → Place → Tables
set_down_in join x e c amount to = with_hand (adjusted (λ v. join v amount) x e c to) None

-- a refused set-down gives its token back
abbrev pub given_back : Option Refusal → Token → Result (Unit {0}) (Refusal × Token)
given_back None token = Ok tt
given_back (Some why) token = Err (why, token)

abbrev pub set_answer : Tables → Token → Place → Result (Unit {0}) (Refusal × Token)
set_answer x token to = given_back (set_refusal x token.held.entry token.held.candidate token.held.amount to) token

abbrev pub set_after : (ℕ → ℕ → ℕ) → Tables → ℕ → ℕ → ℕ → Place → Tables
set_after join x e c amount to = unless_refused (set_refusal x e c amount to) x (set_down_in join x e c amount to)
