use Rattle.std.proofs.Common.{List, subst, sym}
use Rattle.std.specs.Arc.{arc_value}
use Rattle.rmt_entries.specs.declared.entry.Entry.{Entry}
use Rattle.rmt_row.specs.Token.{Token}
use Rattle.rmt_threaded.specs.ThreadedTables.{AreMutations}
use Rattle.rmt_threaded.proofs.ReadLemmas.{mutations-are, mutations-none}
use Rattle.rmt_threaded.proofs.access.share_mutations.Goals as goal

pub returns-in_ok-shared-in-Some : goal.returns-in_ok-shared-in-Some
returns-in_ok-shared-in-Some c =
    subst (λ (tokens : List (Token Entry)). AreMutations c.args.copy.now tokens) (sym c.in_ok-shared-in-Some.ensures.cases)
    (mutations-are c.args.copy.now c.len.result (arc_value c.in-Some.list.now) c.len.ensures.len c.len.ensures.lawful c.in-Some.ensures.tokens.entries c.in-Some.ensures.ordered)

pub returns-in-None : goal.returns-in-None
returns-in-None c = mutations-none c.args.copy.now c.len.result c.len.ensures.len c.len.ensures.lawful c.in-None.ensures.tokens
