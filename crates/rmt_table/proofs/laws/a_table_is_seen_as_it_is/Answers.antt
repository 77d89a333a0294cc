use Rattle.std.proofs.Common.{◌≡◌, ◌+◌, arith, ap, ◌∙◌}
use Rattle.rmt_table_model.specs.Tables.{session_of}
use Rattle.rmt_table.proofs.SoundBridge.{sound-shown}
use Rattle.rmt_table.proofs.LockLemmas.{locks-from, locks-has, locks-rising}
use Rattle.rmt_table.proofs.SessionLemmas.{opened-from, opened-has, opened-count}
use Rattle.rmt_table.proofs.NumberLemmas.{kept-same}
use Rattle.rmt_table.proofs.CallBridge.{shown-locked, locked-shown}
use Rattle.rmt_table.proofs.laws.a_table_is_seen_as_it_is.Goals as goal

pub returns-clause-sound : goal.returns-clause-sound
returns-clause-sound c = λ v s. sound-shown v s

pub returns-clause-locks : goal.returns-clause-locks
returns-clause-locks c = λ v k s. (λ h. locks-from v s k h, λ h. locks-has v s k h)

pub returns-clause-locks_in_order : goal.returns-clause-locks_in_order
returns-clause-locks_in_order c = λ v s. locks-rising v s

pub returns-clause-locked : goal.returns-clause-locked
returns-clause-locked c = λ v p n s. (λ l. locked-shown v p n s l, λ h. shown-locked v p n h.0 s h.1)

pub returns-clause-ids : goal.returns-clause-ids
returns-clause-ids c = λ v p digest. kept-same v.schema.window v.log p digest

pub returns-clause-sessions : goal.returns-clause-sessions
returns-clause-sessions c = λ v r. (
  λ h.
      let x = opened-from v.sessions 1 (r + 1) h in
      let n = x.number in
      let e : r ≡ x.replica = omega (arith, n) in
      (x.session, ap (session_of v.sessions) e ∙ x.opened),
  λ h. opened-has v.sessions 1 (r + 1) r h.0 (omega arith) h.1,
)

pub returns-clause-sessions_counted : goal.returns-clause-sessions_counted
returns-clause-sessions_counted c = λ v. opened-count v.sessions 1
