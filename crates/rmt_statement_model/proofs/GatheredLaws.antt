-- A quorum's copies: where no workers run, they are what the function says.
use Rattle.std.proofs.Common.{◌≡◌, ℕ, zero, suc, ◌<◌, ◌≤◌, inl, inr, Bool, true, false, cond, refl, sym, ap, arith, ◌∙◌, nat_le}
use Rattle.std.proofs.lemmas.Bool.Decides.{nat_tests}
use Rattle.rmt_model.specs.Quorum.{quorum_after_note}
use Rattle.rmt_statement_model.specs.TableStates.{TableState}
use Rattle.rmt_statement_model.specs.QuorumCopies.{is_asked, copied_where, CopiesTo, Gathers}
use Rattle.rmt_statement_model.specs.Gathered.{copied_to, gathered, gathered_for}
use Rattle.rmt_statement_model.proofs.RestLaws.{rests-none}

-- the table, the writer noted
abbrev pub writer_noted : ℕ → TableState → TableState
writer_noted writer t = record t { quorum = quorum_after_note writer t.quorum }

-- the table, once a replica was asked
abbrev pub asked_next : (ℕ → Bool) → ℕ → ℕ → ℕ → TableState → TableState
asked_next up writer place k t = copied_where (is_asked t.quorum.pending up t.fetching writer k) place k t

-- ---- the function makes the copies

copies-made : (w : Bool) (up : ℕ → Bool) (writer place n : ℕ) (t : TableState) → CopiesTo w up writer place n t (copied_to up writer place n (writer_noted writer t))
copies-made w up writer place zero t = record { at = t; rests = inl refl; change = refl }
copies-made w up writer place (suc n) t =
    (copied_to up writer place n (writer_noted writer t), copies-made w up writer place n t, record { at = copied_to up writer place n (writer_noted writer t); rests = inl refl; change = refl })

-- where workers run too
pub gathers-made : (w : Bool) (need : ℕ) (up : ℕ → Bool) (writer place : ℕ) (t : TableState) → Gathers w need up writer place t (gathered_for need up writer place t)
gathers-made w need up writer place t = go (nat_le 2 need) refl
  where
    go : (b : Bool) → nat_le 2 need ≡ b → Gathers w need up writer place t (cond b (gathered up writer place t) t)
    go true e = inr (let l : 2 ≤ need = grind (arith, nat_tests) in l, record { mid = gathered up writer place t; copies = copies-made w up writer place 8 t; rests = inl refl })
    go false e = inl (let l : need < 2 = grind (arith, nat_tests) in l, refl)

-- ---- and makes no others

copies-are : (up : ℕ → Bool) (writer place n : ℕ) (t u : TableState) → CopiesTo false up writer place n t u → u ≡ copied_to up writer place n (writer_noted writer t)
copies-are up writer place zero t u k = k.change ∙ ap (writer_noted writer) (rests-none t k.at k.rests)
copies-are up writer place (suc n) t u k =
    k.2.change ∙ (ap (asked_next up writer place (suc n)) (rests-none k.0 k.2.at k.2.rests) ∙ ap (asked_next up writer place (suc n)) (copies-are up writer place n t k.0 k.1))

-- where no workers run
pub gathers-are : (need : ℕ) (up : ℕ → Bool) (writer place : ℕ) (t u : TableState) → Gathers false need up writer place t u → u ≡ gathered_for need up writer place t
gathers-are need up writer place t u (inl k) = k.1 ∙ sym (ap (λ (b : Bool). cond b (gathered up writer place t) t) none)
  where
    none : nat_le 2 need ≡ false
    none = let l = k.0 in grind (arith, nat_tests)
gathers-are need up writer place t u (inr k) =
    rests-none k.1.mid u k.1.rests ∙ (copies-are up writer place 8 t k.1.mid k.1.copies ∙ sym (ap (λ (b : Bool). cond b (gathered up writer place t) t) some))
  where
    some : nat_le 2 need ≡ true
    some = let l = k.0 in grind (arith, nat_tests)
