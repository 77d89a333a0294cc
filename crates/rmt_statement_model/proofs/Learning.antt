-- What is known at one replica: what was known stays so, and what it did with an entry is known.
use Rattle.std.proofs.Common.{◌≡◌, ℕ, ◌<◌, ◌≤◌, inl, inr, ◌&&◌, ◌||◌, Bool, true, false, List, [], ◌∷◌, ◌++◌, length, refl, sym, ap, subst, arith, nat_eq}
use Rattle.std.proofs.lemmas.Bool.Decides.{nat_tests}
use Rattle.rmt_values.specs.Rows.{Shape}
use Rattle.rmt_entries.specs.declared.entry.Entry.{Entry}
use Rattle.rmt_model.specs.Lawful.{IsPrefix}
use Rattle.rmt_model.specs.Fair.{AreFair}
use Rattle.rmt_model.specs.CopiedParts.{Copied, names_of}
use Rattle.rmt_model.proofs.Standing.{with_mark, fair-fewer}
use Rattle.rmt_events.specs.Views.{Replica}
use Rattle.rmt_events.specs.ReplicaCalls.{IsStanding, Settles, DoesDrop, DoesPart, Pulls}
use Rattle.rmt_events.specs.Clusters.{Cluster}
use Rattle.rmt_events.specs.Whole.{Follows, IsWhole}
use Rattle.rmt_events.specs.ApplyEvents.{AppliesTo}
use Rattle.rmt_events.proofs.FairSteps.{Serves, fair-behind, fair-settled, fair-swept, fair-served}
use Rattle.rmt_events.proofs.Supplies.{supply-serves}
use Rattle.rmt_statement_model.specs.TableStates.{learned}
use Rattle.rmt_statement_model.specs.Shows.{Knows}
use Rattle.rmt_events.specs.declared.applied.Applied.{Applied}
use Rattle.rmt_events.specs.declared.applied.Applied.TheVariants as ap_

-- ---- what was known

-- the copy and the parts are the same
pub knows-same : (x y : Replica) (m : ℕ → Bool) → y.log ≡ x.log → y.parts ≡ x.parts → Knows x m → Knows y m
knows-same x y m e f k =
    record {
      within = subst (λ (l : List Entry). (i : ℕ) → length l ≤ i → m i ≡ false) (sym e) k.within;
      fair = subst (λ (l : List Entry). AreFair l m (names_of y.parts)) (sym e) (subst (λ (ps : List Copied). AreFair x.log m (names_of ps)) (sym f) k.fair);
    }

-- fewer marks
pub knows-fewer : (z : Replica) (m n : ℕ → Bool) → ((j : ℕ) → n j ≡ true → m j ≡ true) → Knows z m → Knows z n
knows-fewer z m n f k =
    record {
      within = λ j l. past j l (n j) refl;
      fair = fair-fewer z.log n m (names_of z.parts) (λ j l e. f j e) k.fair;
    }
  where
    past : (j : ℕ) → length z.log ≤ j → (b : Bool) → n j ≡ b → b ≡ false
    past j l false e = refl
    past j l true e = let q = f j e in let r = k.within j l in absurd (cc)

-- a longer copy
pub knows-pulls : (x y : Replica) (log : List Entry) (m : ℕ → Bool) → IsPrefix x.log log → Knows x m → Pulls x log y → Knows y m
knows-pulls x y log m g k c =
    subst (λ (z : Replica). Knows z m) (sym c) (record {
      within = λ i l. k.within i (let e : length log ≡ length (g.gained ++ x.log) = ap (λ (l : List Entry). length l) g.is in let f = behind g.gained in omega (arith, l, e, f));
      fair = subst (λ (l : List Entry). AreFair l m (names_of x.parts)) (sym g.is) (fair-behind g.gained x.log m (names_of x.parts) k.within k.fair);
    })
  where
    behind : (xs : List Entry) → length x.log ≤ length (xs ++ x.log)
    behind [] = omega arith
    behind (z ∷ zs) = let k = behind zs in omega (arith, k)

-- ---- what was done

-- the place is known besides
abbrev pub Learns : Replica → ℕ → (ℕ → Bool) → Type 0
Learns y i m = AreFair y.log (with_mark i m) (names_of y.parts)

-- nothing was to do
learns-settles : (schema : Shape) (x y : Replica) (i : ℕ) (m : ℕ → Bool) → IsStanding schema x → Knows x m → Settles x i y → Learns y i m
learns-settles schema x y i m t k c = subst (λ (z : Replica). Learns z i m) (sym c.change) (fair-settled schema x i m t c.cause k.fair)

-- a drop was done
learns-drop : (schema : Shape) (x y : Replica) (i : ℕ) (m : ℕ → Bool) → IsStanding schema x → Knows x m → DoesDrop x i y → Learns y i m
learns-drop schema x y i m t k c = subst (λ (z : Replica). Learns z i m) (sym c.change) (fair-swept schema x i m c.partition c.number t c.stands k.fair)

-- a part was installed
learns-part : (schema : Shape) (x y : Replica) (i : ℕ) (m : ℕ → Bool) (part : Copied) → IsStanding schema x → Serves schema x i part → Knows x m → DoesPart x i part y → Learns y i m
learns-part schema x y i m part t v k c =
    subst (λ (z : Replica). Learns z i m) (sym c.change) (subst (AreFair x.log (with_mark i m)) (sym c.installs.names) (fair-served schema x i m part t v k.fair))

-- each way that an entry goes
pub learns-applies : (s : Cluster) (x y : Replica) (i : ℕ) (comes : Applied) (m : ℕ → Bool) → IsWhole s → Follows s x → Knows x m → AppliesTo s i comes x y → Learns y i m
learns-applies s x y i ap_.Already m w f k a = learns-settles s.table.schema x y i m f.stands k a.1
learns-applies s x y i ap_.Dropped m w f k a = learns-settles s.table.schema x y i m f.stands k a.1
learns-applies s x y i ap_.Installed m w f k (inl a) = learns-drop s.table.schema x y i m f.stands k a.1
learns-applies s x y i ap_.Installed m w f k (inr a) =
    learns-part s.table.schema x y i m a.part f.stands (supply-serves s x i a.part w f a.does.fits a.supply).0 k a.does

-- the copy stays
pub copy-applies : (s : Cluster) (x y : Replica) (i : ℕ) (comes : Applied) → AppliesTo s i comes x y → y.log ≡ x.log
copy-applies s x y i ap_.Already a = ap (λ (z : Replica). z.log) (Settles.change a.1)
copy-applies s x y i ap_.Dropped a = ap (λ (z : Replica). z.log) (Settles.change a.1)
copy-applies s x y i ap_.Installed (inl a) = ap (λ (z : Replica). z.log) a.1.change
copy-applies s x y i ap_.Installed (inr a) = ap (λ (z : Replica). z.log) a.does.change

-- marks that hold where one mark more does
knows-marked : (y : Replica) (i : ℕ) (m k : ℕ → Bool) → i < length y.log → ((j : ℕ) → length y.log ≤ j → m j ≡ false) → Learns y i m → ((j : ℕ) → k j ≡ true → with_mark i m j ≡ true) → Knows y k
knows-marked y i m k l w f g =
    record {
      within = λ j n. past j n (k j) refl;
      fair = fair-fewer y.log k (with_mark i m) (names_of y.parts) (λ j n e. g j e) f;
    }
  where
    past : (j : ℕ) → length y.log ≤ j → (b : Bool) → k j ≡ b → b ≡ false
    past j n false e = refl
    past j n true e = let q = g j e in let r = w j n in absurd (none (nat_eq j i) refl q r)
      where
        none : (b : Bool) → nat_eq j i ≡ b → (b || m j) ≡ true → m j ≡ false → ⊥
        none true t q r = let u : j ≡ i = grind (arith, nat_tests) in absurd (omega (arith, u, n, l))
        none false t q r = absurd (cc)

-- the place is known at the replica that looked at it
pub knows-here : (x y : Replica) (k i : ℕ) (known : ℕ → ℕ → Bool) → y.log ≡ x.log → y.number ≡ x.number → i < length x.log → Knows x (known x.number) → Learns y i (known x.number) → Knows y (learned known k i y.number)
knows-here x y k i known copy number l v f =
    knows-marked y i (known x.number) (learned known k i y.number)
    (subst (λ (z : List Entry). i < length z) (sym copy) l)
    (subst (λ (z : List Entry). (j : ℕ) → length z ≤ j → known x.number j ≡ false) (sym copy) v.within) f
    (λ j e. fewer j (nat_eq y.number k) (nat_eq j i) (subst (λ n. (nat_eq y.number k && nat_eq j i) || known n j ≡ true) number e))
  where
    fewer : (j : ℕ) (b d : Bool) → ((b && d) || known x.number j) ≡ true → (d || known x.number j) ≡ true
    fewer j true true e = refl
    fewer j true false e = e
    fewer j false true e = refl
    fewer j false false e = e

-- nothing more is known at another
pub knows-elsewhere : (z : Replica) (k i : ℕ) (known : ℕ → ℕ → Bool) → (z.number ≡ k → ⊥) → Knows z (known z.number) → Knows z (learned known k i z.number)
knows-elsewhere z k i known n v = knows-fewer z (known z.number) (learned known k i z.number) (λ j e. same j (nat_eq z.number k) refl e) v
  where
    same : (j : ℕ) (b : Bool) → nat_eq z.number k ≡ b → ((b && nat_eq j i) || known z.number j) ≡ true → known z.number j ≡ true
    same j true q e = absurd (n (let u : z.number ≡ k = grind (arith, nat_tests) in u))
    same j false q e = e
