use Rattle.std.proofs.Common.{◌≡◌, ◌∙◌, true, ap, subst, sym}
use Rattle.std.proofs.lemmas.List.Elements.{All-filter}
use Rattle.std.specs.List.{All, list_any}
use Rattle.std.specs.declared.option.Option.TheVariants.{Some}
use Rattle.rmt_names.specs.Names.{Name, covers}
use Rattle.rmt_model.specs.Quorum.{Quorum}
use Rattle.rmt_partset.specs.Snapshots.{NamedData, names_in}
use Rattle.rmt_table_model.specs.Held.{Held}
use Rattle.rmt_events.specs.Views.{Table}
use Rattle.rmt_statement_model.specs.Reads.{waiting_part}
use Rattle.rmt_sequential.proofs.KeptParts.{is_kept, any-named}
use Rattle.rmt_acts.proofs.SequentialActs.{told-part, reads-kept, known-kept, lacks-last}
use Rattle.rmt_acts.proofs.sequential.read_in_quorum.Goals as goal
use Rattle.rmt_acts.proofs.sequential.read_in_quorum.Goals.{in-Some+else-not-has_cover, in_default}

pub returns-then-not-has_cover-clause-refused : goal.returns-then-not-has_cover-clause-refused
returns-then-not-has_cover-clause-refused c =
    let s = c.args.cluster.now in
    let told = c.quorum-quorum.result in
    let same : c.tree.result.now.quorum ≡ s.table.quorum = ap (λ (h : Held). h.quorum) c.tree.ensures ∙ ap (λ (t : Table). t.quorum) c.state.ensures.table in
    lacks-last s c.args.replica told.pending told.last c.in-Some.last c.in_ok-active.active c.in_ok-parts.parts
    (told-part c.tree.result.now.quorum told c.quorum-quorum.ensures ∙ ap waiting_part same) (c.quorum-quorum.ensures.last ∙ ap (λ (q : Quorum). q.last) same)
    c.in_ok-active.ensures.reading c.in_ok-parts.ensures c.in-Some.is
    (sym (any-named (λ b. covers b c.in-Some.last) c.in_ok-parts.parts) ∙ (sym c.has_cover.ensures ∙ c.if-not-has_cover.true))

pub returns-clause-reading : goal.returns-clause-reading
returns-clause-reading c =
    let s = c.args.cluster.now in
    let told = c.quorum-quorum.result in
    let same : c.tree.result.now.quorum ≡ s.table.quorum = ap (λ (h : Held). h.quorum) c.tree.ensures ∙ ap (λ (t : Table). t.quorum) c.state.ensures.table in
    let covered : (a : Name) → told.last ≡ Some a → list_any (λ b. covers b a) (names_in c.in_ok-parts.parts) ≡ true = λ a e. elim c.match-quorum.branch [
      | in-Some+else-not-has_cover w ↦
          let one : w.in-Some.last ≡ a = let d = w.in-Some.is in cc in
          subst (λ (z : Name). list_any (λ b. covers b z) (names_in c.in_ok-parts.parts) ≡ true) one
          (sym (any-named (λ b. covers b w.in-Some.last) c.in_ok-parts.parts) ∙ (sym w.has_cover.ensures ∙ w.if-not-has_cover.false))
      | in_default w ↦ absurd (w.in_default.not-Some a e)
    ] in
    reads-kept s c.args.replica told.pending told.last c.in_ok-active.active c.in_ok-parts.parts
    (told-part c.tree.result.now.quorum told c.quorum-quorum.ensures ∙ ap waiting_part same) (c.quorum-quorum.ensures.last ∙ ap (λ (q : Quorum). q.last) same)
    c.in_ok-active.ensures.reading c.in_ok-parts.ensures covered

pub returns-clause-known : goal.returns-clause-known
returns-clause-known c = known-kept c.args.cluster.now c.args.replica c.quorum-quorum.result.pending c.in_ok-active.active c.in_ok-parts.parts c.in_ok-active.ensures.known c.in_ok-parts.ensures

pub returns-clause-keys : goal.returns-clause-keys
returns-clause-keys c =
    subst (All (λ (p : NamedData). p.rows.key ≡ c.args.cluster.now.table.schema.key)) (sym c.in_ok-parts.ensures)
    (All-filter (is_kept c.quorum-quorum.result.pending) (λ (p : NamedData). p.rows.key ≡ c.args.cluster.now.table.schema.key) c.in_ok-active.active c.in_ok-active.ensures.keys)
