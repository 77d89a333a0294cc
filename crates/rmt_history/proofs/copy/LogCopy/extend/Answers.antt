use Rattle.std.proofs.Common.{◌≡◌, ◌∙◌, ◌∷◌, ◌++◌, [], ap, sym, subst, refl, length, map, arith}
use Rattle.std.proofs.lemmas.Grind.{common_steps}
use Rattle.std.specs.Arc.{arc_value}
use Rattle.std.specs.Option.{option_map}
use Rattle.std.specs.BTreeMap.{get}
use Rattle.rmt_entries.specs.Entries.{result_name}
use Rattle.rmt_entries.specs.declared.entry.Entry.{Entry}
use Rattle.rmt_history.specs.Copies.{History, maker_after, name_cmp, drop_after, partition_cmp}
use Rattle.rmt_model.specs.Live.{live_after}
use Rattle.rmt_model.specs.Lawful.{Lawful}
use Rattle.rmt_history.proofs.Copied.{IsCopy-more}
use Rattle.rmt_history.proofs.SharedLemmas.{made-of, pushed-onto}
use Rattle.rmt_history.proofs.copy.LogCopy.extend.Goals as goal

pub invariant_of-self-2 : goal.invariant_of-self-2
invariant_of-self-2 c =
    let e = sym c.self.view_is in
    let entry = c.value.ensures in
    let place : c.len-place.result ≡ length c.self.inside.seen.items = grind (arith, common_steps) in
    let pushed : c.push.new.self.items ≡ c.self.inside.seen.items ++ c.args.next ∷ [] = grind (arith, common_steps) in
    IsCopy-more (arc_value c.self.inside.schema) c.self.inside.seen.items c.push.new.self.items c.self.inside.live.names c.bring_up.new.names.names c.args.next c.self.inside.makers c.note.new.makers c.self.inside.drops c.note.new.drops
    (map arc_value c.self.inside.mutations.items) (map arc_value c.push_list.new.lists.items) (option_map arc_value c.in_ok-list.list)
    c.self.invariant
    (c.requires.place ∙ ap (λ (h : History). length h.log) e)
    (subst (λ (h : History). Lawful h.schema (c.args.next.value ∷ h.log)) e c.requires.lawful)
    pushed
    (c.bring_up.ensures ∙ (ap (live_after c.value-2.result.now) c.room_for.ensures.live ∙ ap (λ (v : Entry). live_after v c.self.inside.live.names) c.value-2.ensures))
    (λ a. c.in_ok-note.ensures.makers a ∙ (ap (λ (v : Entry). maker_after (result_name v) c.len-place.result (get name_cmp c.self.inside.makers a) a) entry ∙ ap (λ n. maker_after (result_name c.args.next.value) n (get name_cmp c.self.inside.makers a) a) place))
    (λ p. c.in_ok-note.ensures.drops p ∙ (ap (λ (v : Entry). drop_after v c.len-place.result (get partition_cmp c.self.inside.drops p) p) entry ∙ ap (λ n. drop_after c.args.next.value n (get partition_cmp c.self.inside.drops p) p) place))
    (made-of arc_value _ c.self.inside.mutations.items c.args.next c.args.next _ c.in_ok-list.ensures c.deref.ensures.value refl)
    (pushed-onto arc_value _ c.self.inside.mutations.items _ _ c.push_list.ensures c.room_for.ensures.mutations)
