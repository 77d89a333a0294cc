use Rattle.std.proofs.Common.{◌≡◌, ◌∙◌, ◌∷◌, ◌++◌, [], refl, ap, sym, subst, length, map, arith}
use Rattle.std.proofs.lemmas.Grind.{common_steps}
use Rattle.std.specs.Prelude.{slice_get}
use Rattle.std.specs.declared.option.Option.TheVariants.{Some}
use Rattle.std.specs.Arc.{arc_value}
use Rattle.std.specs.Option.{option_map}
use Rattle.std.specs.BTreeMap.{get}
use Rattle.rmt_row.specs.Token.{Token}
use Rattle.rmt_entries.specs.Entries.{result_name}
use Rattle.rmt_entries.specs.declared.entry.Entry.{Entry}
use Rattle.rmt_model.specs.Live.{live_after}
use Rattle.rmt_model.specs.Lawful.{Lawful}
use Rattle.rmt_history.specs.Copies.{History, IsLogOf, entries, maker_after, name_cmp, drop_after, partition_cmp}
use Rattle.rmt_history.proofs.Copied.{IsCopy-more, length-entries}
use Rattle.rmt_history.proofs.FollowLemmas.{token-follows, followed-lawful, goes-on, goes-on-held, view-more}
use Rattle.rmt_history.proofs.RowLemmas.{longer-of-row}
use Rattle.rmt_history.proofs.SharedLemmas.{made-of, pushed-onto}
use Rattle.rmt_history.proofs.copy.LogCopy.follow.Goals as goal

pub list-requires : goal.list-requires
list-requires c =
    let short = c.self.inside.seen.items in
    let place : c.len-place.result ≡ length short = grind (arith, common_steps) in
    let follows = token-follows (arc_value c.self.inside.schema) short c.args.log.now.tokens c.args.self.now c.len-place.result c.token.result.now c.in_ok-next.next c.self.invariant.numbered c.token.ensures.numbered c.self.view_is c.requires.row c.requires.prefix place c.token.ensures.token c.in_ok-next.ensures in
    goes-on-held arc_value _ c.self.inside.mutations.items c.args.log.now.tokens c.in_ok-next.next c.deref.ensures.value
    (goes-on short c.args.log.now.tokens c.in_ok-next.next (map arc_value c.self.inside.mutations.items) follows c.self.invariant.mutating)

pub bring_up-requires-clause-lawful : goal.bring_up-requires-clause-lawful
bring_up-requires-clause-lawful c =
    let short = c.self.inside.seen.items in
    let schema = arc_value c.self.inside.schema in
    let place : c.len-place.result ≡ length short = grind (arith, common_steps) in
    let follows = token-follows schema short c.args.log.now.tokens c.args.self.now c.len-place.result c.token.result.now c.in_ok-next.next c.self.invariant.numbered c.token.ensures.numbered c.self.view_is c.requires.row c.requires.prefix place c.token.ensures.token c.in_ok-next.ensures in
    let lawful = subst (λ (h : History). Lawful h.schema (entries c.args.log.now.tokens)) (sym c.self.view_is) c.requires.lawful in
    record {
      schema = schema;
      log = entries short;
      lawful = subst (λ (v : Entry). Lawful schema (v ∷ entries short)) (sym c.value-2.ensures) (followed-lawful schema short c.args.log.now.tokens c.in_ok-next.next follows lawful);
      living = c.room_for.ensures.live ∙ c.self.invariant.living;
    }

pub invariant_of-self-2 : goal.invariant_of-self-2
invariant_of-self-2 c =
    let short = c.self.inside.seen.items in
    let schema = arc_value c.self.inside.schema in
    let next = c.in_ok-next.next in
    let entry = c.value.ensures in
    let place : c.len-place.result ≡ length short = grind (arith, common_steps) in
    let follows = token-follows schema short c.args.log.now.tokens c.args.self.now c.len-place.result c.token.result.now next c.self.invariant.numbered c.token.ensures.numbered c.self.view_is c.requires.row c.requires.prefix place c.token.ensures.token c.in_ok-next.ensures in
    let lawful = subst (λ (h : History). Lawful h.schema (entries c.args.log.now.tokens)) (sym c.self.view_is) c.requires.lawful in
    let there = subst (λ (t : Token Entry). slice_get c.args.log.now.tokens c.len-place.result ≡ Some t) (sym c.in_ok-next.ensures) c.token.ensures.token in
    let pushed : c.push.new.self.items ≡ short ++ next ∷ [] = grind (arith, common_steps) in
    IsCopy-more schema short c.push.new.self.items c.self.inside.live.names c.bring_up.new.names.names next c.self.inside.makers c.note.new.makers c.self.inside.drops c.note.new.drops
    (map arc_value c.self.inside.mutations.items) (map arc_value c.push_list.new.lists.items) (option_map arc_value c.in_ok-list.list)
    c.self.invariant
    (c.token.ensures.numbered c.len-place.result next there ∙ place ∙ sym (length-entries short))
    (followed-lawful schema short c.args.log.now.tokens next follows lawful)
    pushed
    (c.bring_up.ensures ∙ (ap (live_after c.value-2.result.now) c.room_for.ensures.live ∙ ap (λ (v : Entry). live_after v c.self.inside.live.names) c.value-2.ensures))
    (λ a. c.in_ok-note.ensures.makers a ∙ (ap (λ (v : Entry). maker_after (result_name v) c.len-place.result (get name_cmp c.self.inside.makers a) a) entry ∙ ap (λ n. maker_after (result_name next.value) n (get name_cmp c.self.inside.makers a) a) place))
    (λ p. c.in_ok-note.ensures.drops p ∙ (ap (λ (v : Entry). drop_after v c.len-place.result (get partition_cmp c.self.inside.drops p) p) entry ∙ ap (λ n. drop_after next.value n (get partition_cmp c.self.inside.drops p) p) place))
    (made-of arc_value _ c.self.inside.mutations.items next next _ c.in_ok-list.ensures c.deref.ensures.value refl)
    (pushed-onto arc_value _ c.self.inside.mutations.items _ _ c.push_list.ensures c.room_for.ensures.mutations)

pub returns-clause-ok : goal.returns-clause-ok
returns-clause-ok c =
    let short = c.self.inside.seen.items in
    let next = c.in_ok-next.next in
    let place : c.len-place.result ≡ length short = grind (arith, common_steps) in
    let there = subst (λ (t : Token Entry). slice_get c.args.log.now.tokens c.len-place.result ≡ Some t) (sym c.in_ok-next.ensures) c.token.ensures.token in
    let pushed : c.push.new.self.items ≡ short ++ next ∷ [] = grind (arith, common_steps) in
    record {
      next = next;
      there = subst (λ n. slice_get c.args.log.now.tokens n ≡ Some next) (place ∙ sym (length-entries short) ∙ ap (λ (h : History). length h.log) c.self.view_is) there;
      is = view-more (arc_value c.self.inside.schema) short c.push.new.self.items next c.args.self.now pushed c.self.view_is;
    }

pub returns-clause-of_row : goal.returns-clause-of_row
returns-clause-of_row c =
    let short = c.self.inside.seen.items in
    let next = c.in_ok-next.next in
    let place : c.len-place.result ≡ length short = grind (arith, common_steps) in
    let there = subst (λ (t : Token Entry). slice_get c.args.log.now.tokens c.len-place.result ≡ Some t) (sym c.in_ok-next.ensures) c.token.ensures.token in
    let pushed : c.push.new.self.items ≡ short ++ next ∷ [] = grind (arith, common_steps) in
    let at = c.token.ensures.numbered c.len-place.result next there ∙ place ∙ sym (length-entries short) ∙ ap (λ (h : History). length h.log) c.self.view_is in
    λ row of are.
    subst (IsLogOf row) (sym (view-more (arc_value c.self.inside.schema) short c.push.new.self.items next c.args.self.now pushed c.self.view_is))
    (longer-of-row row c.args.self.now next of at (are c.len-place.result next there))
