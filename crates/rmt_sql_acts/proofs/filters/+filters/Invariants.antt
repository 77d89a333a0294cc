use Rattle.std.proofs.Common.{◌≡◌, ◌*◌, ◌+◌, ◌≤◌, length}
use Rattle.rmt_sql_tokens.specs.Lexing.{tokens}
use Rattle.rmt_sql_tokens.specs.Exact.{always}
use Rattle.rmt_sql_tokens.proofs.Loops.{Left}
use Rattle.rmt_sql_acts.specs.Phrases.{tests_in}
use Rattle.rmt_sql_acts.specs.Phrases.{unary, conj, disj, and_unary, or_conj}
use Rattle.rmt_sql_acts.proofs.PhraseLaws.{and_word, or_word}
use Rattle.rmt_sql_acts.proofs.filters.+filters.Given as goal

abbrev pub decreases-unary : goal.decreases-unary
decreases-unary l = 3 * l.depth

abbrev pub decreases-conj : goal.decreases-conj
decreases-conj l = 3 * l.depth + 1

abbrev pub decreases-disj : goal.decreases-disj
decreases-disj l = 3 * l.depth + 2

abbrev pub invariant-conj-others : goal.invariant-conj-others
invariant-conj-others l = record {
  left : Left always and_word (λ f. (and_unary (unary l.depth) l.before f).read) l.filter (tokens l.rest) ((conj (unary l.depth) l.before).read (tokens l.at));
  count : l.total ≡ l.before + tests_in l.filter;
  few : l.total ≤ 256;
}

abbrev pub decreases-conj-others : goal.decreases-conj-others
decreases-conj-others l = length (tokens l.rest)

abbrev pub invariant-disj-others : goal.invariant-disj-others
invariant-disj-others l = record {
  left : Left always or_word (λ f. (or_conj (unary l.depth) l.before f).read) l.filter (tokens l.rest) ((disj (unary l.depth) l.before).read (tokens l.at));
  count : l.total ≡ l.before + tests_in l.filter;
  few : l.total ≤ 256;
}

abbrev pub decreases-disj-others : goal.decreases-disj-others
decreases-disj-others l = length (tokens l.rest)
