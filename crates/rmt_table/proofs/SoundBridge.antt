-- A sound table is shown as a sound one.
use Rattle.std.proofs.Common.{◌≤◌, inl, inr, refl, arith}
use Rattle.rmt_model.proofs.Lists.{Each-all}
use Rattle.rmt_table_model.specs.Tables as tables
use Rattle.rmt_table_model.specs.Tables.{TableView}
use Rattle.rmt_table_model.proofs.SoundLemmas.{above-all}
use Rattle.rmt_events.specs.Sound.{IsFree, IsSoundTable}
use Rattle.rmt_table.specs.SeenTable.{locks_in, shown}
use Rattle.rmt_table.proofs.LockLemmas.{locks-from}

pub sound-shown : (v : TableView) → tables.IsSound v → IsSoundTable (shown v)
sound-shown v s = record {
  lawful = s.lawful;
  ordered = s.nexts.rising;
  taken = Each-all (λ x. 1 ≤ x.1) v.next (λ x h. s.nexts.begun x.0 x.1 h);
  used = λ p n u. let l = above-all v s p n (inl u) in omega (arith, l);
  locks = Each-all (IsFree (shown v)) (locks_in v.holders v.sessions v.next) (λ k h.
      let w = locks-from v s k h in
      let l = above-all v s k.partition k.number (inr (w.session, w.held)) in
      record { below = omega (arith, l); fresh = s.free k.partition k.number (w.session, w.held) });
  window = refl;
  quorum = s.quorum;
  values = s.within.values;
}
