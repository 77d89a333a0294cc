-- Whether a replica has the part that waits for its quorum, as a cluster sees it.
use Rattle.std.proofs.Common.{◌≡◌, ℕ, zero, suc, ◌+◌, inl, inr, Bool, true, false, cond, List, [], ◌∷◌, map, refl, sym, ap, subst, arith, ◌∙◌, ◌||◌, nat_eq}
use Rattle.std.proofs.lemmas.Bool.Decides.{nat_tests}
use Rattle.std.specs.List.{list_any}
use Rattle.std.specs.Option.{is_some, option_map}
use Rattle.std.specs.Prelude.{slice_get, MatchOption}
use Rattle.std.specs.declared.option.Option.{Option}
use Rattle.std.specs.declared.option.Option.TheVariants.{Some, None}
use Rattle.rmt_names.specs.Names.{Name, Covers, covers}
use Rattle.rmt_model.specs.Words.{Has}
use Rattle.rmt_model.specs.Quorum.{Pending}
use Rattle.rmt_model.proofs.Lists.{covers-true}
use Rattle.rmt_model.proofs.LiveLaws.{covers-holds}
use Rattle.rmt_table_model.specs.Held.{Held}
use Rattle.rmt_part.specs.Lineages.{PartValue}
use Rattle.rmt_part.specs.CopiedPart.{copied}
use Rattle.rmt_partset.specs.ActiveParts.{part_names, IsCovering}
use Rattle.rmt_replica.specs.Replicas.{ReplicaView}
use Rattle.rmt_replica.specs.SeenReplica.{shown}
use Rattle.rmt_events.specs.Draws.{has_pending_part, pending_part_at}
use Rattle.rmt_state.specs.States.{Belongs, AreNumbered}
use Rattle.rmt_state.proofs.StateLemmas.{some-same}

-- a part of these covers the name
abbrev has_covering : List PartValue → Name → Bool
has_covering parts a = list_any (λ part. covers part.name a) (map copied parts)

pub none-covers : (parts : List PartValue) (a : Name) → ((b : Name) → Has (part_names parts) b → Covers b a → ⊥) → has_covering parts a ≡ false
none-covers [] a f = refl
none-covers (p ∷ parts) a f = go (covers p.name a) refl (none-covers parts a (λ b h c. f b (inr h) c))
  where
    go : (v : Bool) → covers p.name a ≡ v → has_covering parts a ≡ false → (v || has_covering parts a) ≡ false
    go true e n = absurd (f p.name (inl refl) (covers-true p.name a e))
    go false e n = n

or-true : (v w : Bool) → w ≡ true → (v || w) ≡ true
or-true true w e = refl
or-true false w e = e

pub one-covers : (parts : List PartValue) (a : Name) (x : PartValue) → Has parts x → Covers x.name a → has_covering parts a ≡ true
one-covers [] a x h c = absurd h
one-covers (p ∷ parts) a x (inl e) c = ap (λ (v : Bool). v || has_covering parts a) (covers-holds p.name a (subst (λ (z : PartValue). Covers z.name a) (sym e) c))
one-covers (p ∷ parts) a x (inr h) c = or-true (covers p.name a) (has_covering parts a) (one-covers parts a x h c)

-- the replica at a place is that of its number
pub pending-at : (tree : Held) (k : ℕ) (rs : List ReplicaView) (i : ℕ) (x : ReplicaView) (pending : Option Pending) → AreNumbered tree k rs → slice_get rs i ≡ Some x → pending_part_at pending (map shown rs) (k + i) ≡ has_pending_part pending (shown x)
pending-at tree k [] i x pending n e = absurd (cc)
pending-at tree k (r ∷ rs) zero x pending n e =
    let b = Belongs.numbered n.0 in
    let t : nat_eq r.number (k + 0) ≡ true = grind (arith, nat_tests, b) in
    ap (λ (v : Bool). cond v (has_pending_part pending (shown r)) (pending_part_at pending (map shown rs) (k + 0))) t ∙ ap (λ (z : ReplicaView). has_pending_part pending (shown z)) (some-same r x e)
pending-at tree k (r ∷ rs) (suc i) x pending n e =
    let b = Belongs.numbered n.0 in
    let t : nat_eq r.number (k + suc i) ≡ false = grind (arith, nat_tests, b) in
    let q : k + suc i ≡ k + 1 + i = omega arith in
    ap (λ (v : Bool). cond v (has_pending_part pending (shown r)) (pending_part_at pending (map shown rs) (k + suc i))) t
    ∙ (ap (λ m. pending_part_at pending (map shown rs) m) q ∙ pending-at tree (k + 1) rs i x pending n.1 e)

none-at : (rs : List ReplicaView) (k : ℕ) → pending_part_at None (map shown rs) k ≡ false
none-at [] k = refl
none-at (r ∷ rs) k = go (nat_eq r.number k) (none-at rs k)
  where
    go : (v : Bool) → pending_part_at None (map shown rs) k ≡ false → cond v false (pending_part_at None (map shown rs) k) ≡ false
    go true e = refl
    go false e = e

-- where no part waits, no replica has it
pub none-waits : (rs : List ReplicaView) (k : ℕ) (pending : Option Pending) (told : Option Name) → told ≡ option_map (λ q. q.part) pending → ((a : Name) → told ≡ Some a → ⊥) → false ≡ pending_part_at pending (map shown rs) k
none-waits rs k None told e n = sym (none-at rs k)
none-waits rs k (Some q) told e n = absurd (n q.part e)

-- the part that waits is the one that is told
one-part : (pending : Option Pending) (a : Name) → Some a ≡ option_map (λ q. q.part) pending → (q : Pending) × (pending ≡ Some q) × (q.part ≡ a)
one-part None a e = absurd (cc)
one-part (Some q) a e = (q, refl, some-same-name q.part a (sym e))
  where
    some-same-name : (c d : Name) → ◌≡◌ {A = Option Name} (Some c) (Some d) → c ≡ d
    some-same-name c d h = cc

-- what was found for the part among the active parts of a replica tells whether it has it
pub found-told : {T : Type 0} (value : T → PartValue) (x : ReplicaView) (pending : Option Pending) (a : Name) (found : Option T) (has : Bool) → Some a ≡ option_map (λ q. q.part) pending
    → MatchOption found ((b : Name) → Has (part_names x.parts) b → Covers b a → ⊥) (λ y. IsCovering x.parts a (value y)) → has ≡ is_some found → has ≡ has_pending_part pending (shown x)
found-told {T} value x pending a found has e f h =
    let p = one-part pending a e in
    subst (λ (o : Option Pending). has ≡ has_pending_part o (shown x)) (sym p.1) (subst (λ (n : Name). has ≡ has_covering x.parts n) (sym p.2) (h ∙ go found f))
  where
    go : (o : Option T) → MatchOption o ((b : Name) → Has (part_names x.parts) b → Covers b a → ⊥) (λ y. IsCovering x.parts a (value y)) → is_some o ≡ has_covering x.parts a
    go None f = sym (none-covers x.parts a f)
    go (Some y) f = sym (one-covers x.parts a (value y) f.is_in f.covers)
