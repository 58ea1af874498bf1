use Rattle.std.proofs.Common.{rules}
use Rattle.plan.proofs.Accepts.{counts_fit, few_candidates, decided}
use Rattle.plan.proofs.tables.Tables.check_fill.Goals as goal

pub check_own-requires : goal.check_own-requires
check_own-requires c =
    let counts = c.args.lists.now.counts.now in
    record { few = few_candidates counts (counts_fit counts c.in_ok-check_counts.ensures.is_the_first_fault) }

pub returns-in_err-check_counts-clause-none_exactly_where_fillable : goal.returns-in_err-check_counts-clause-none_exactly_where_fillable
returns-in_err-check_counts-clause-none_exactly_where_fillable c = decided c.args.self.now c.args.lists.now c.from_residual.result (search rules)

pub returns-in_err-check_own-clause-none_exactly_where_fillable : goal.returns-in_err-check_own-clause-none_exactly_where_fillable
returns-in_err-check_own-clause-none_exactly_where_fillable c = decided c.args.self.now c.args.lists.now c.from_residual-in_err-check_own.result (search rules)

pub returns-clause-none_exactly_where_fillable : goal.returns-clause-none_exactly_where_fillable
returns-clause-none_exactly_where_fillable c = decided c.args.self.now c.args.lists.now c.check_records.result (search rules)
