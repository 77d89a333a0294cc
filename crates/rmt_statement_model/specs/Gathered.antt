-- The table once a quorum's copies were made, where no workers run. No public clause cites this module.
use Rattle.std.specs.Prelude.{ℕ, zero, suc, Bool, cond, nat_le}
use Rattle.rmt_model.specs.Quorum.{quorum_after_note}
use Rattle.rmt_statement_model.specs.TableStates.{TableState}
use Rattle.rmt_statement_model.specs.QuorumCopies.{is_asked, copied_where}

-- the replicas of the first so many numbers, in order, each having made its copy that is asked for one
abbrev pub copied_to : (ℕ → Bool) → ℕ → ℕ → ℕ → TableState → TableState
copied_to up writer place zero t = t
copied_to up writer place (suc n) t =
    copied_where (is_asked (copied_to up writer place n t).quorum.pending up (copied_to up writer place n t).fetching writer (suc n)) place (suc n) (copied_to up writer place n t)

-- the table, the writer noted for the part that waits, and the others asked then
abbrev pub gathered : (ℕ → Bool) → ℕ → ℕ → TableState → TableState
gathered up writer place t = copied_to up writer place 8 (record t { quorum = quorum_after_note writer t.quorum })

-- the same where so many replicas are asked for; fewer than 2 ask for no quorum
abbrev pub gathered_for : ℕ → (ℕ → Bool) → ℕ → ℕ → TableState → TableState
gathered_for need up writer place t = cond (nat_le 2 need) (gathered up writer place t) t
