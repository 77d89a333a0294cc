use Rattle.std.proofs.Common.{◌-◌, arith}
use Rattle.std.proofs.lemmas.Result.{err_from_is_err_and}
use Rattle.rmt_sql_tokens.specs.Lexing.{tokens}
use Rattle.rmt_sql_tokens.specs.Exact.{always, never}
use Rattle.rmt_sql_tokens.proofs.Loops.{left_stop, left_fails, left_on, takes_some}
use Rattle.rmt_values.specs.declared.filter.Filter.TheVariants.{Both, Either}
use Rattle.rmt_sql_acts.specs.Phrases.{and_unary, or_conj, unary}
use Rattle.rmt_sql_acts.proofs.PhraseLaws.{and_word, or_word, and_law, or_law, on_conj, unary_firsts, unary_law}
use Rattle.rmt_sql_acts.proofs.FilterReads.{tests_in-Both, tests_in-Either, and_reads, and_fails, or_reads, or_fails, close_fails}
use Rattle.rmt_sql_acts.proofs.filters.+filters.Goals as goal

pub conj-returns-in_default-clause-reads : goal.conj-returns-in_default-clause-reads
conj-returns-in_default-clause-reads t c =
    left_stop always and_word (λ f. (and_unary (unary c.args.depth) c.args.before f).read) c.others.filter (tokens c.others.rest) _ c.others.invariant.left c.in_default.ensures

pub conj-returns-in_err-other-clause-reads : goal.conj-returns-in_err-other-clause-reads
conj-returns-in_err-other-clause-reads t c =
    let p = err_from_is_err_and c.from_residual-in_err-other.result c.from_residual-in_err-other.ensures.1 in
    rw (p.1, p.2) (left_fails always and_word (λ f. (and_unary (unary c.args.depth) c.args.before f).read) c.others.filter (tokens c.others.rest) _ c.in_err-other.field-0.0 c.others.invariant.left c.in-Some.ensures.0
    (and_fails (unary c.args.depth) c.args.before c.others.total c.others.filter (tokens c.others.rest) (tokens c.in-Some.after) c.in_err-other.field-0.0 c.others.invariant.count c.in-Some.ensures.1 c.in_err-other.ensures.reads))

pub conj-others-smaller : goal.conj-others-smaller
conj-others-smaller t c =
    let read = and_reads (unary c.args.depth) c.args.before c.others.total c.others.filter c.in_ok-other.other (tokens c.others.rest) (tokens c.in-Some.after) (tokens c.in_ok-other.later) c.others.invariant.count c.in-Some.ensures.1 c.in_ok-other.ensures.reads in
    takes_some (and_unary (unary c.args.depth) c.args.before c.others.filter) never and_word (and_law (unary c.args.depth) unary_firsts (unary_law c.args.depth) c.args.before c.others.filter)
    (tokens c.others.rest) (Both c.others.filter c.in_ok-other.other) (tokens c.in_ok-other.later) read

pub conj-others-preserved : goal.conj-others-preserved
conj-others-preserved t c =
    let read = and_reads (unary c.args.depth) c.args.before c.others.total c.others.filter c.in_ok-other.other (tokens c.others.rest) (tokens c.in-Some.after) (tokens c.in_ok-other.later) c.others.invariant.count c.in-Some.ensures.1 c.in_ok-other.ensures.reads in
    let less = takes_some (and_unary (unary c.args.depth) c.args.before c.others.filter) never and_word (and_law (unary c.args.depth) unary_firsts (unary_law c.args.depth) c.args.before c.others.filter)
    (tokens c.others.rest) (Both c.others.filter c.in_ok-other.other) (tokens c.in_ok-other.later) read in
    record {
      left = rw c.in_ok-filter-2.ensures (left_on always and_word (λ f. (and_unary (unary c.args.depth) c.args.before f).read) c.others.filter (tokens c.others.rest)
          (Both c.others.filter c.in_ok-other.other) (tokens c.in_ok-other.later) _ c.others.invariant.left less c.in-Some.ensures.0 read);
      count = rw c.in_ok-filter-2.ensures (omega (arith, tests_in-Both c.others.filter c.in_ok-other.other, c.in_ok-other.ensures.count.0, c.others.invariant.count));
      few = c.in_ok-other.ensures.count.1;
    }

pub disj-returns-in_default-clause-reads : goal.disj-returns-in_default-clause-reads
disj-returns-in_default-clause-reads t c =
    left_stop always or_word (λ f. (or_conj (unary c.args.depth) c.args.before f).read) c.others.filter (tokens c.others.rest) _ c.others.invariant.left c.in_default.ensures

pub disj-returns-in_err-other-clause-reads : goal.disj-returns-in_err-other-clause-reads
disj-returns-in_err-other-clause-reads t c =
    let p = err_from_is_err_and c.from_residual-in_err-other.result c.from_residual-in_err-other.ensures.1 in
    rw (p.1, p.2) (left_fails always or_word (λ f. (or_conj (unary c.args.depth) c.args.before f).read) c.others.filter (tokens c.others.rest) _ c.in_err-other.field-0.0 c.others.invariant.left c.in-Some.ensures.0
    (or_fails (unary c.args.depth) c.args.before c.others.total c.others.filter (tokens c.others.rest) (tokens c.in-Some.after) c.in_err-other.field-0.0 c.others.invariant.count c.in-Some.ensures.1 c.in_err-other.ensures.reads))

pub disj-others-smaller : goal.disj-others-smaller
disj-others-smaller t c =
    let read = or_reads (unary c.args.depth) c.args.before c.others.total c.others.filter c.in_ok-other.other (tokens c.others.rest) (tokens c.in-Some.after) (tokens c.in_ok-other.later) c.others.invariant.count c.in-Some.ensures.1 c.in_ok-other.ensures.reads in
    takes_some (or_conj (unary c.args.depth) c.args.before c.others.filter) on_conj or_word (or_law (unary c.args.depth) unary_firsts (unary_law c.args.depth) c.args.before c.others.filter)
    (tokens c.others.rest) (Either c.others.filter c.in_ok-other.other) (tokens c.in_ok-other.later) read

pub disj-others-preserved : goal.disj-others-preserved
disj-others-preserved t c =
    let read = or_reads (unary c.args.depth) c.args.before c.others.total c.others.filter c.in_ok-other.other (tokens c.others.rest) (tokens c.in-Some.after) (tokens c.in_ok-other.later) c.others.invariant.count c.in-Some.ensures.1 c.in_ok-other.ensures.reads in
    let less = takes_some (or_conj (unary c.args.depth) c.args.before c.others.filter) on_conj or_word (or_law (unary c.args.depth) unary_firsts (unary_law c.args.depth) c.args.before c.others.filter)
    (tokens c.others.rest) (Either c.others.filter c.in_ok-other.other) (tokens c.in_ok-other.later) read in
    record {
      left = rw c.in_ok-filter-2.ensures (left_on always or_word (λ f. (or_conj (unary c.args.depth) c.args.before f).read) c.others.filter (tokens c.others.rest)
          (Either c.others.filter c.in_ok-other.other) (tokens c.in_ok-other.later) _ c.others.invariant.left less c.in-Some.ensures.0 read);
      count = rw c.in_ok-filter-2.ensures (omega (arith, tests_in-Either c.others.filter c.in_ok-other.other, c.in_ok-other.ensures.count.0, c.others.invariant.count));
      few = c.in_ok-other.ensures.count.1;
    }

pub unary-returns-in_err-at-clause-reads : goal.unary-returns-in_err-at-clause-reads
unary-returns-in_err-at-clause-reads t c =
    let p = err_from_is_err_and c.from_residual-in_err-at.result c.from_residual-in_err-at.ensures.1 in
    rw (p.1, p.2) (close_fails (c.args.depth - 1) c.args.depth c.args.before c.in_ok-filter-3.filter (tokens c.args.at) (tokens c.in-Some-next_symbol.at) (tokens c.in_ok-filter-3.at) c.in_err-at.field-0.0
    (omega (arith, c.if-depth-eq0.false)) c.in_default.ensures c.in-Some-next_symbol.ensures.0 c.in-Some-next_symbol.ensures.1 c.in_ok-filter-3.ensures.reads c.in_err-at.ensures)
