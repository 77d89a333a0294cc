use Rattle.std.proofs.Common.{◌≡◌, ◌∙◌, ◌∷◌, subst}
use Rattle.std.specs.FinMap as map
use Rattle.std.specs.Map.Iter.{deref_pair}
use Rattle.std.proofs.lemmas.Map.Iter.{rest_more}
use Rattle.rmt_tree.specs.Slots.{Slots}
use Rattle.rmt_tree.specs.SessionTracker.{TrackChanged}
use Rattle.rmt_tree.proofs.OwnedLemmas.{TrackChanged-next, TrackOwned-end, owned_stay_next}
use Rattle.rmt_tree.proofs.slots.untrack_all.Goals as goal

pub changes-preserved : goal.changes-preserved
changes-preserved c =
    let rest : c.changes.place-iterator ≡ (c.in-Some.place.now, c.in-Some.slot.now) ∷ c.next.new.self = rest_more deref_pair c.changes.place-iterator c.next.new.self c.next.result (c.in-Some.place, c.in-Some.slot) c.in-Some.is c.next.ensures.steps in
    record {
      sessions = c.untrack_other.ensures.sessions ∙ c.changes.invariant.sessions;
      stay = owned_stay_next (map.entries c.args.slots.now) c.in-Some.place.now c.args.tracker.now.items c.changes.tracker.items c.untrack_other.new.tracker.items c.untrack_other.ensures.others (rw c.owner_at.ensures at c.untrack_other.ensures.kept) c.changes.invariant.stay;
      exact = TrackChanged-next (map.entries c.args.slots.now) c.next.new.self (c.in-Some.place.now, c.in-Some.slot.now) c.changes.tracker.items c.untrack_other.new.tracker.items c.untrack_other.ensures.no_more (rw (c.owner_of.ensures, c.owner_at.ensures) at c.untrack_other.ensures.gone)
          (subst (λ (es : Slots). TrackChanged c.changes.tracker.items (map.entries c.args.slots.now) es) rest c.changes.invariant.exact);
    }

pub returns-clause-exact : goal.returns-clause-exact
returns-clause-exact c = TrackOwned-end c.changes.tracker.items (map.entries c.args.slots.now) c.changes.place-iterator c.in-None.ensures.steps.0 c.changes.invariant.exact
