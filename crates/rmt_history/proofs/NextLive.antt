-- What the next entry of a lawful log does to the live names.
use Rattle.std.proofs.Common.{◌≡◌, List, sym, subst}
use Rattle.std.specs.declared.option.Option.TheVariants.{Some}
use Rattle.rmt_names.specs.Names.{Name, Overlap, Covers}
use Rattle.rmt_entries.specs.Entries.{result_name}
use Rattle.rmt_entries.specs.declared.entry.Entry.{Entry}
use Rattle.rmt_model.specs.Words.{Each}
use Rattle.rmt_model.specs.Live.{live}
use Rattle.rmt_model.proofs.Lists.{Each-all}
use Rattle.rmt_model.proofs.Drops.{supplants}
use Rattle.rmt_history.specs.Copies.{FollowsLog}

pub over-of : (e : Entry) (names : List Name) (new : Name) → FollowsLog e names → result_name e ≡ Some new → Each (λ a. Overlap new a → Covers new a) names
over-of e names new g q =
    subst (Each (λ a. Overlap new a → Covers new a)) (sym g.living) (Each-all (λ a. Overlap new a → Covers new a) (live g.log) (supplants g.schema e g.log new g.lawful q).over)
