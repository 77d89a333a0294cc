use Rattle.std.proofs.Common.{◌≡◌, ℕ, List, ◌∙◌, true, false, sym, ap}
use Rattle.std.specs.declared.option.Option.TheVariants.{Some}
use Rattle.rmt_entries.specs.declared.entry.Entry.{Entry}
use Rattle.rmt_model.specs.Lawful.{entry_at}
use Rattle.rmt_table_model.specs.Kept.{is_get}
use Rattle.rmt_jobs.proofs.EntryLemmas.{get-entry, not-get}
use Rattle.rmt_jobs.proofs.next.is_get.Goals as goal

-- the entry of a copy is that of the log
entry-read : (copy log : List Entry) (i : ℕ) (e v : Entry) → copy ≡ log → entry_at copy i ≡ Some e → v ≡ e
    → entry_at log i ≡ Some v
entry-read copy log i e v l at q = ap (λ (es : List Entry). entry_at es i) (sym l) ∙ (at ∙ ap Some (sym q))

pub returns-in-Get : goal.returns-in-Get
returns-in-Get c =
    let copy = c.copy.result.now.log in
    let log = c.args.replica.now.log in
    let v = c.value.result.now in
    let at : entry_at copy c.args.i ≡ Some c.unwrap.result.now.value = rw c.unwrap.ensures at c.entry.ensures.entry in
    let here = entry-read copy log c.args.i c.unwrap.result.now.value v c.copy.ensures.log at c.value.ensures in
    get-entry log c.args.i v true here (ap is_get c.in-Get.is)

pub returns-in_default : goal.returns-in_default
returns-in_default c =
    let copy = c.copy.result.now.log in
    let log = c.args.replica.now.log in
    let v = c.value.result.now in
    let at : entry_at copy c.args.i ≡ Some c.unwrap.result.now.value = rw c.unwrap.ensures at c.entry.ensures.entry in
    let here = entry-read copy log c.args.i c.unwrap.result.now.value v c.copy.ensures.log at c.value.ensures in
    get-entry log c.args.i v false here (not-get v c.in_default.not-Get)
