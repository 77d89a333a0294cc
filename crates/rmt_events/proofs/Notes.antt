-- What the table has of notes the replicas have still.
use Rattle.std.proofs.Common.{◌≡◌, ℕ, ◌≤◌, ◌⊎◌, inl, inr, Bool, true, false, cond, List, [], ◌∷◌, length, refl, sym, ap, subst, arith, ◌∙◌, nat_eq, nat_lt}
use Rattle.std.proofs.lemmas.Bool.Decides.{nat_tests}
use Rattle.std.specs.declared.option.Option.{Option}
use Rattle.std.specs.declared.option.Option.TheVariants.{Some, None}
use Rattle.rmt_names.specs.Names.{Name}
use Rattle.rmt_entries.specs.declared.entry.Entry.{Entry}
use Rattle.rmt_model.specs.Words.{Has, Each}
use Rattle.rmt_model.proofs.Lists.{Each-at, Each-all}
use Rattle.rmt_model.specs.Quorum.{QuorumBlock, Pending, Quorum, quorum_blocks, IsPending, IsQuorum, is_dropped_by, pending_after_drop, last_after_drop, noted_with, quorum_noted, noted_by, quorum_after_note}
use Rattle.rmt_model.proofs.QuorumLemmas.{noted-rising}
use Rattle.rmt_events.specs.Views.{Replica, Table}
use Rattle.rmt_events.specs.Clusters.{with_replica}
use Rattle.rmt_events.specs.Whole.{HasNoted, IsMet, KeepNotes}

-- what is noted in one list of replicas is noted in another
abbrev pub NotedOn : List Replica → List Replica → Type 0
NotedOn xs ys = (a : Name) (k : ℕ) → HasNoted xs a k → HasNoted ys a k

pub noted-same : (xs : List Replica) → NotedOn xs xs
noted-same xs a k h = h

-- one replica is replaced, which keeps its notes
pub noted-kept : (xs : List Replica) (k : ℕ) (y : Replica) → y.number ≡ k → ((z : Replica) → Has xs z → z.number ≡ k → (a : Name) → Has z.noted a → Has y.noted a) → NotedOn xs (with_replica xs k y)
noted-kept [] k y e f a j h = absurd (h.is_in)
noted-kept (x ∷ xs) k y e f a j h = go (nat_eq x.number k) refl (h.is_in) (λ m. noted-kept xs k y e (λ z i. f z (inr i)) a j (record { replica = h.replica; is_in = m; numbered = h.numbered; noted = h.noted }))
  where
    go : (b : Bool) → nat_eq x.number k ≡ b → (x ≡ h.replica) ⊎ Has xs h.replica → (Has xs h.replica → HasNoted (with_replica xs k y) a j) → HasNoted (cond b (y ∷ xs) (x ∷ with_replica xs k y)) a j
    go true q (inl m) g =
        let r : x.number ≡ k = grind (arith, nat_tests) in
        record { replica = y; is_in = inl refl; numbered = e ∙ (sym r ∙ (ap (λ (z : Replica). z.number) m ∙ h.numbered)); noted = f x (inl refl) r a (subst (λ (z : Replica). Has z.noted a) (sym m) h.noted) }
    go true q (inr m) g = record { replica = h.replica; is_in = inr m; numbered = h.numbered; noted = h.noted }
    go false q (inl m) g = record { replica = h.replica; is_in = inl m; numbered = h.numbered; noted = h.noted }
    go false q (inr m) g = let r = g m in record { replica = r.replica; is_in = inr r.is_in; numbered = r.numbered; noted = r.noted }

-- the pending part is as it was, or none has noted it; the last part is as it was, or gone
pub notes-on : (t u : Table) (xs ys : List Replica) → ((q : Pending) → u.quorum.pending ≡ Some q → (t.quorum.pending ≡ Some q) ⊎ (q.noted ≡ [])) → ((a : Name) → u.quorum.last ≡ Some a → t.quorum.last ≡ Some a)
    → ((x : QuorumBlock) → Has (quorum_blocks t.log) x → Has (quorum_blocks u.log) x) → NotedOn xs ys → KeepNotes t xs → KeepNotes u ys
notes-on t u xs ys f g h o k =
    record {
      pending = λ q e. elim (f q e) [
        | inl i ↦ Each-all (HasNoted ys q.part) q.noted (λ r m. o q.part r (Each-at (HasNoted xs q.part) q.noted r (k.pending q i) m))
        | inr i ↦ subst (λ (l : List ℕ). Each (HasNoted ys q.part) l) (sym i) tt
      ];
      last = λ a e. let m = k.last a (g a e) in record {
        need = m.need;
        asked = h (record { part = a; need = m.need }) m.asked;
        by = m.by;
        once = m.once;
        enough = m.enough;
        each = Each-all (HasNoted ys a) m.by (λ r i. o a r (Each-at (HasNoted xs a) m.by r m.each i));
      };
    }

-- the quorum and the quorum blocks are as they were
pub notes-same : (t u : Table) (xs ys : List Replica) → u.quorum ≡ t.quorum → ((x : QuorumBlock) → Has (quorum_blocks t.log) x → Has (quorum_blocks u.log) x) → NotedOn xs ys → KeepNotes t xs → KeepNotes u ys
notes-same t u xs ys e h o k = notes-on t u xs ys (λ q i. inl (ap (λ (z : Quorum). z.pending) (sym e) ∙ i)) (λ a i. ap (λ (z : Quorum). z.last) (sym e) ∙ i) h o k

-- the table's quorum and log are as they were
pub notes-quiet : (t u : Table) (xs ys : List Replica) → u.quorum ≡ t.quorum → u.log ≡ t.log → NotedOn xs ys → KeepNotes t xs → KeepNotes u ys
notes-quiet t u xs ys e l o k = notes-same t u xs ys e (λ x m. subst (λ (log : List Entry). Has (quorum_blocks log) x) (sym l) m) o k

-- ---- a block, and a drop

-- a block opens a quorum that none has noted, or none
pub pending-opened : (b : Bool) (a : Name) (need : ℕ) (o : Option Pending) (q : Pending) → cond b (Some (record { part = a; need = need; noted = [] })) o ≡ Some q → (o ≡ Some q) ⊎ (q.noted ≡ [])
pending-opened true a need o q e = inr (ap (λ (z : Pending). z.noted) (let w : q ≡ record { part = a; need = need; noted = [] } = cc in w))
pending-opened false a need o q e = inl e

pub block-asked : (b : Bool) (y : QuorumBlock) (ys : List QuorumBlock) (x : QuorumBlock) → Has ys x → Has (cond b (y ∷ ys) ys) x
block-asked true y ys x h = inr h
block-asked false y ys x h = h

pub pending-left : (p : Option ℕ) (n : ℕ) (o : Option Pending) (q : Pending) → pending_after_drop p n o ≡ Some q → o ≡ Some q
pending-left p n None q e = absurd (cc)
pending-left p n (Some o) q e = go (is_dropped_by p n o.part) e
  where
    go : (b : Bool) → cond b None (Some o) ≡ Some q → Some o ≡ Some q
    go true f = absurd (cc)
    go false f = f

pub last-left : (p : Option ℕ) (n : ℕ) (o : Option Name) (a : Name) → last_after_drop p n o ≡ Some a → o ≡ Some a
last-left p n None a e = absurd (cc)
last-left p n (Some b) a e = go (is_dropped_by p n b) e
  where
    go : (c : Bool) → cond c None (Some b) ≡ Some a → Some b ≡ Some a
    go true f = absurd (cc)
    go false f = f

-- ---- a note

noted-from : (r : ℕ) (xs : List ℕ) (y : ℕ) → Has (noted_with r xs) y → (r ≡ y) ⊎ Has xs y
noted-from r [] y (inl e) = inl e
noted-from r [] y (inr h) = absurd h
noted-from r (x ∷ xs) y h = go (nat_lt x r) (nat_eq x r) h (noted-from r xs y)
  where
    go : (b c : Bool) → Has (cond b (x ∷ noted_with r xs) (cond c (x ∷ xs) (r ∷ x ∷ xs))) y → (Has (noted_with r xs) y → (r ≡ y) ⊎ Has xs y) → (r ≡ y) ⊎ Has (x ∷ xs) y
    go true c (inl e) f = inr (inl e)
    go true c (inr k) f = elim (f k) [ inl e ↦ inl e | inr m ↦ inr (inr m) ]
    go false true k f = inr k
    go false false (inl e) f = inl e
    go false false (inr k) f = inr k

-- the replica of the number notes the pending part, which those have that are noted for it
pub notes-note : (t u : Table) (xs ys : List Replica) (k : ℕ) (q : Pending) → IsQuorum t.log t.quorum → t.quorum.pending ≡ Some q → u.log ≡ t.log → u.quorum ≡ quorum_after_note k t.quorum → NotedOn xs ys → HasNoted ys q.part k → KeepNotes t xs → KeepNotes u ys
notes-note t u xs ys k q is e l c o h keep = go (nat_lt (length noted) q.need) refl
  where
    noted : List ℕ
    noted = noted_with k q.noted

    each : Each (HasNoted ys q.part) (noted_with k q.noted)
    each = Each-all (HasNoted ys q.part) (noted_with k q.noted) (λ r m. elim (noted-from k q.noted r m) [
      | inl i ↦ subst (HasNoted ys q.part) i h
      | inr i ↦ o q.part r (Each-at (HasNoted xs q.part) q.noted r (keep.pending q e) i)
    ])

    was : IsPending t.log (Some q) (IsQuorum.others is)
    was = subst (λ (z : Option Pending). IsPending t.log z (IsQuorum.others is)) e (IsQuorum.pending is)

    same : u.quorum ≡ quorum_noted q (noted_with k q.noted) t.quorum.last
    same = c ∙ ap (noted_by k t.quorum) e

    last-on : (a : Name) → t.quorum.last ≡ Some a → IsMet u.log ys a
    last-on a i = let m = keep.last a i in record {
      need = m.need;
      asked = subst (λ (log : List Entry). Has (quorum_blocks log) (record { part = a; need = m.need })) (sym l) m.asked;
      by = m.by;
      once = m.once;
      enough = m.enough;
      each = Each-all (HasNoted ys a) m.by (λ r j. o a r (Each-at (HasNoted xs a) m.by r m.each j));
    }

    met : q.need ≤ length (noted_with k q.noted) → IsMet u.log ys q.part
    met n = record {
      need = q.need;
      asked = subst (λ (log : List Entry). Has (quorum_blocks log) (record { part = q.part; need = q.need })) (sym l) (subst (λ (bs : List QuorumBlock). Has bs (record { part = q.part; need = q.need })) (sym was.0) (inl refl));
      by = noted_with k q.noted;
      once = noted-rising k q.noted was.3;
      enough = n;
      each = each;
    }

    go : (b : Bool) → nat_lt (length (noted_with k q.noted)) q.need ≡ b → KeepNotes u ys
    go true b =
        let s : u.quorum ≡ record { pending = Some (record { part = q.part; need = q.need; noted = noted_with k q.noted }); last = t.quorum.last } = same ∙ ap (λ (z : Bool). cond z (record { pending = Some (record { part = q.part; need = q.need; noted = noted_with k q.noted }); last = t.quorum.last }) (record { pending = None; last = Some q.part })) b in
        record {
          pending = λ p i. let j : record { part = q.part; need = q.need; noted = noted_with k q.noted } ≡ p = some-is (sym (ap (λ (z : Quorum). z.pending) s) ∙ i) in subst (λ (z : Pending). Each (HasNoted ys z.part) z.noted) j each;
          last = λ a i. last-on a (sym (ap (λ (z : Quorum). z.last) s) ∙ i);
        }
      where
        some-is : {p r : Pending} → Some p ≡ Some r → p ≡ r
        some-is f = cc
    go false b =
        let s : u.quorum ≡ record { pending = None; last = Some q.part } = same ∙ ap (λ (z : Bool). cond z (record { pending = Some (record { part = q.part; need = q.need; noted = noted_with k q.noted }); last = t.quorum.last }) (record { pending = None; last = Some q.part })) b in
        record {
          pending = λ p i. absurd (none-is (sym (ap (λ (z : Quorum). z.pending) s) ∙ i));
          last = λ a i. let j : q.part ≡ a = some-is (sym (ap (λ (z : Quorum). z.last) s) ∙ i) in subst (IsMet u.log ys) j (met (let m : q.need ≤ length (noted_with k q.noted) = grind (arith, nat_tests) in m));
        }
      where
        some-is : {p r : Name} → Some p ≡ Some r → p ≡ r
        some-is f = cc

        none-is : {p : Pending} → None ≡ Some p → ⊥
        none-is f = absurd (cc)
