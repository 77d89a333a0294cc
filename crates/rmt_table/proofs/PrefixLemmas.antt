-- A prefix of a log against the log: of one length they are equal, and a shorter one goes on with the entry at its length.
use Rattle.std.proofs.Common.{◌≡◌, ◌≤◌, inl, inr, List, [], ◌∷◌, ◌++◌, length, sym, ap, subst, arith}
use Rattle.std.specs.declared.option.Option.TheVariants.{Some}
use Rattle.rmt_entries.specs.declared.entry.Entry.{Entry}
use Rattle.rmt_model.specs.Lawful.{IsPrefix, entry_at}
use Rattle.rmt_model.proofs.Drops.{entry-below, entry-cases}
use Rattle.rmt_events.proofs.Moves.{goes-on-refl, goes-on-more}
use Rattle.rmt_events.proofs.Converge.{one-front}

-- a prefix as long as the log is the log
pub prefix-whole : (shorter longer : List Entry) → IsPrefix shorter longer → length shorter ≡ length longer → shorter ≡ longer
prefix-whole shorter longer f e = one-front shorter longer longer f (goes-on-refl longer) e

longer-behind : (gained log : List Entry) → length log ≤ length (gained ++ log)
longer-behind [] log = omega arith
longer-behind (x ∷ gained) log = let w = longer-behind gained log in omega (arith, w)

-- a prefix isn't longer than the log
pub prefix-length : (shorter longer : List Entry) → IsPrefix shorter longer → length shorter ≤ length longer
prefix-length shorter longer f = let w = longer-behind f.gained shorter in let q = ap (λ (l : List Entry). length l) f.is in omega (arith, w, q)

behind-next : (gained log : List Entry) (e : Entry) → entry_at (gained ++ log) (length log) ≡ Some e → IsPrefix (e ∷ log) (gained ++ log)
behind-next [] log e q = let w = entry-below log (length log) e q in absurd (omega (arith, w))
behind-next (x ∷ []) log e q = elim (entry-cases x log (length log) e q) [
  | inl s ↦ record { gained = []; is = ap (λ (y : Entry). y ∷ log) s.1 }
  | inr s ↦ let w = entry-below log (length log) e s in absurd (omega (arith, w))
]
behind-next (x ∷ y ∷ gained) log e q = elim (entry-cases x (y ∷ (gained ++ log)) (length log) e q) [
  | inl s ↦ let w = longer-behind gained log in let u = s.0 in absurd (omega (arith, w, u))
  | inr s ↦ goes-on-more x (e ∷ log) (y ∷ (gained ++ log)) (behind-next (y ∷ gained) log e s)
]

-- a prefix with the log's entry at its length is a prefix
pub prefix-next : (shorter longer : List Entry) (e : Entry) → IsPrefix shorter longer → entry_at longer (length shorter) ≡ Some e → IsPrefix (e ∷ shorter) longer
prefix-next shorter longer e f q =
    subst (λ (l : List Entry). IsPrefix (e ∷ shorter) l) (sym f.is) (behind-next f.gained shorter e (subst (λ (l : List Entry). entry_at l (length shorter) ≡ Some e) f.is q))
