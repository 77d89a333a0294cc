use Rattle.std.proofs.Common.{◌≡◌, ℕ, Global, List, ◌∙◌, sym, ap}
use Rattle.std.specs.Option.{option_map}
use Rattle.std.specs.Vec.{vec_items}
use Rattle.std.specs.declared.option.Option.{Option}
use Rattle.std.specs.declared.option.Option.TheVariants.{Some, None}
use Rattle.rmt_names.specs.Names.{Name}
use Rattle.rmt_names.specs.declared.name.PartName.{PartName}
use Rattle.rmt_entries.specs.declared.entry.Entry.{Entry}
use Rattle.rmt_pick.specs.MergeChoices.{MergeLimits}
use Rattle.rmt_events.specs.Draws.{chosen}
use Rattle.rmt_jobs.proofs.next.merge_or_mutate.Goals as goal

-- what is found in a copy of the log, with the most parts that a merge takes
chosen-found : (copy log : List Entry) (most : ℕ) (found : Option (List Name)) → copy ≡ log → most ≡ 10
    → found ≡ chosen copy most → chosen log 10 ≡ found
chosen-found copy log most found e m f = sym (f ∙ (ap (λ (l : List Entry). chosen l most) e ∙ ap (chosen log) m))

pub returns-in_default : goal.returns-in_default
returns-in_default c =
    let ten = ap (λ (l : MergeLimits). l.most) c.new.ensures in
    let found = sym (ap (option_map (vec_items {X = PartName} {Z = Global})) c.in_default.is) ∙ c.in_ok-found.ensures.run in
    let none = chosen-found c.copy.result.now.log c.args.replica.now.log c.new.result.most None c.copy.ensures.log ten found in
    λ len free. c.mutate_or_idle.ensures len free none

pub returns : goal.returns
returns c =
    let names = c.in-Some.names.items in
    let ten = ap (λ (l : MergeLimits). l.most) c.new.ensures in
    let found = sym (ap (option_map (vec_items {X = PartName} {Z = Global})) c.in-Some.is) ∙ c.in_ok-found.ensures.run in
    let some =
    chosen-found c.copy.result.now.log c.args.replica.now.log c.new.result.most (Some names) c.copy.ensures.log ten found in
    λ len free. (free, some ∙ ap Some (sym c.new-2.ensures))
