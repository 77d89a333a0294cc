-- Why a replica that takes the entries in order is never stuck, where the sources are up.
use Rattle.std.proofs.Common.{◌≡◌, ℕ, ◌<◌, ◌≤◌, ◌⊎◌, inl, inr, Bool, true, false, List, [], ◌∷◌, ◌++◌, length, refl, sym, ap, subst, arith, ◌∙◌, nat_eq}
use Rattle.std.proofs.lemmas.Bool.Decides.{nat_tests}
use Rattle.std.specs.declared.option.Option.{Option}
use Rattle.std.specs.declared.option.Option.TheVariants.{Some}
use Rattle.rmt_values.specs.Rows.{Shape}
use Rattle.rmt_names.specs.Names.{Name, Covers, Overlap, data_version, block_name}
use Rattle.rmt_entries.specs.Entries.{result_name}
use Rattle.rmt_entries.specs.declared.entry.Entry.{Entry}
use Rattle.rmt_entries.specs.declared.entry.Entry.TheVariants.{Get, Merge, Mutate, DropRange}
use Rattle.rmt_model.specs.Words.{Has, Each, Pairwise}
use Rattle.rmt_model.specs.Live.{live, made, made_with, Dropped}
use Rattle.rmt_model.specs.Lawful.{Lawful, Used, AboveUsed, DropIn, Merges, IsMutate, entry_at, MakesAt, IsPrefix}
use Rattle.rmt_model.specs.Laws.{Supersedes}
use Rattle.rmt_model.specs.Fair.{CoveredBy, MadeAtMark}
use Rattle.rmt_model.specs.CopiedParts.{Copied, IsCopied, names_of}
use Rattle.rmt_model.proofs.Lists.{Each-at, Each-all}
use Rattle.rmt_model.proofs.LiveLaws.{Tight, tight, drop-of, later-covers, covers-none-but-itself, merged-covers, source-live, source-fits, sources-lined, pending-above, Covers-refl}
use Rattle.rmt_model.proofs.VersionLaws.{live-made, made-sized, made-used}
use Rattle.rmt_model.proofs.Drops.{some-same, made-cases, newest-made, entry-cases, entry-below, entry-has, drop-takes}
use Rattle.rmt_queue.specs.Marks.{done_at}
use Rattle.rmt_events.specs.Views.{Replica}
use Rattle.rmt_events.specs.ReplicaCalls.{IsStanding, Waits}
use Rattle.rmt_events.specs.Clusters.{Cluster}
use Rattle.rmt_events.specs.Whole.{IsKeptAt, Follows, HasReplica, IsWhole, KeepsBlock}
use Rattle.rmt_events.specs.ClusterChanges.{IsOther}
use Rattle.rmt_events.specs.Shown.{IsHeld}
use Rattle.rmt_events.proofs.Copies.{made-at, made-behind, dropped-behind, lawful-behind, entry-behind}
use Rattle.rmt_events.proofs.WholeTries.{one-replica}

-- ---- the log before a place

-- the log, cut at the entry of a place
pub record CutAt (log : List Entry) (i : ℕ) (e : Entry) : Type 0 where
  pub later : List Entry
  pub earlier : List Entry
  pub is : log ≡ later ++ (e ∷ earlier)
  pub at : length earlier ≡ i

pub cut-at : (log : List Entry) (i : ℕ) (e : Entry) → entry_at log i ≡ Some e → CutAt log i e
cut-at [] i e q = absurd (cc)
cut-at (x ∷ log) i e q = elim (entry-cases x log i e q) [
  | inl k ↦ record { later = []; earlier = log; is = ap (λ (y : Entry). y ∷ log) k.1; at = sym k.0 }
  | inr k ↦ (let c = cut-at log i e k in record { later = x ∷ c.later; earlier = c.earlier; is = ap (λ (l : List Entry). x ∷ l) c.is; at = c.at })
]

-- what was made was made at a place
pub record MadeBelow (log : List Entry) (a : Name) : Type 0 where
  pub place : ℕ
  pub below : place < length log
  pub at : MakesAt log place a

pub made-below : (log : List Entry) (a : Name) → Has (made log) a → MadeBelow log a
made-below [] a h = absurd h
made-below (e ∷ log) a h = elim (made-cases e log a h) [
  | inl q ↦ record { place = length log; below = omega arith; at = record { entry = e; stands = newest e log; makes = q } }
  | inr k ↦ (let m = made-below log a k in let l = m.below in record { place = m.place; below = omega (arith, l); at = record { entry = m.at.entry; stands = entry-behind (e ∷ []) log m.place m.at.entry m.at.stands; makes = m.at.makes } })
]
  where
    newest : (e : Entry) (log : List Entry) → entry_at (e ∷ log) (length log) ≡ Some e
    newest e log = grind arith

-- what a longer log made past a shorter one supersedes what that made
made-past : (schema : Shape) (later base : List Entry) (d : Name) → Lawful schema (later ++ base) → Has (made (later ++ base)) d → Has (made base) d ⊎ ((a : Name) → Has (made base) a → Supersedes d a)
made-past schema [] base d l h = inl h
made-past schema (x ∷ later) base d l h = elim (made-cases x (later ++ base) d h) [
  | inl q ↦ inr (λ a k. Each-at (Supersedes d) (made (later ++ base)) a (first q).0 (made-behind later base a k))
  | inr k ↦ made-past schema later base d l.0 k
]
  where
    first : result_name x ≡ Some d → Pairwise Supersedes (made_with (Some d) (made (later ++ base)))
    first q = subst (λ (o : Option Name). Pairwise Supersedes (made_with o (made (later ++ base)))) q (later-covers schema (x ∷ (later ++ base)) l)

used-behind : (later base : List Entry) (p : Option ℕ) (n : ℕ) → Used base p n → Used (later ++ base) p n
used-behind [] base p n u = u
used-behind (x ∷ later) base p n u = inr (used-behind later base p n u)

-- a drop stands in the shorter log, or above all that it uses
drop-past : (schema : Shape) (later base : List Entry) (p : Option ℕ) (n : ℕ) → Lawful schema (later ++ base) → DropIn (later ++ base) p n → DropIn base p n ⊎ AboveUsed base p n
drop-past schema [] base p n l d = inl d
drop-past schema (x ∷ later) base p n l (inl q) = inr (λ m u. (subst (λ (y : Entry). Lawful schema (y ∷ (later ++ base))) q l).1 m (used-behind later base p m u))
drop-past schema (x ∷ later) base p n l (inr d) = drop-past schema later base p n l.0 d

-- ---- what an entry is made from is active, where the entries before it are done

made-mark : (log : List Entry) (i : ℕ) (m : ℕ → Bool) (e : Entry) (a : Name) → entry_at log i ≡ Some e → result_name e ≡ Some a → m i ≡ true → MadeAtMark log m a
made-mark [] i m e a q r t = absurd (cc)
made-mark (x ∷ log) i m e a q r t = elim (entry-cases x log i e q) [
  | inl k ↦ inl (ap m (sym k.0) ∙ t, ap result_name k.1 ∙ r)
  | inr k ↦ inr (made-mark log i m e a k r t)
]

-- a part that the entry takes the place of is active
needed-active : (schema : Shape) (x : Replica) (i : ℕ) (e : Entry) (new c : Name) (k : CutAt x.log i e) → IsStanding schema x → Waits x i → ((j : ℕ) → j < i → done_at x.done j ≡ true) → entry_at x.log i ≡ Some e → result_name e ≡ Some new → Has (live k.earlier) c → Covers new c → Has (names_of x.parts) c
needed-active schema x i e new c k s w done q r h over = elim (s.fair.answered c (made-mark x.log m.place (done_at x.done) m.at.entry c stands m.at.makes (done m.place (let l = m.below in let a = k.at in omega (arith, l, a))))) [
  | inl v ↦ covered v
  | inr v ↦ absurd (gone v)
]
  where
    m : MadeBelow k.earlier c
    m = made-below k.earlier c (live-made k.earlier c h)

    lawful : Lawful schema (k.later ++ (e ∷ k.earlier))
    lawful = subst (Lawful schema) k.is s.lawful

    base : Lawful schema (e ∷ k.earlier)
    base = lawful-behind schema k.later (e ∷ k.earlier) lawful

    stands : entry_at x.log m.place ≡ Some m.at.entry
    stands = subst (λ (l : List Entry). entry_at l m.place ≡ Some m.at.entry) (sym k.is) (entry-behind k.later (e ∷ k.earlier) m.place m.at.entry (entry-behind (e ∷ []) k.earlier m.place m.at.entry m.at.stands))

    new-made : Has (made (e ∷ k.earlier)) new
    new-made = newest-made e k.earlier new r

    new-sized : new.min ≤ new.max
    new-sized = made-sized schema (e ∷ k.earlier) new base new-made

    c-sized : c.min ≤ c.max
    c-sized = (tight schema k.earlier base.0).sized c h

    makes : MakesAt x.log i new
    makes = record { entry = e; stands = q; makes = r }

    -- an active part that covers the result has no place here
    not-covered : (d : Name) → Has (names_of x.parts) d → Covers d new → ⊥
    not-covered d g o = w.open_entry (inr (inr (record { name = new; makes = makes; covered = record { name = d; is_in = g; covers = o } })))

    covered : CoveredBy (names_of x.parts) c → Has (names_of x.parts) c
    covered v = elim (made-past schema k.later (e ∷ k.earlier) v.name lawful (subst (λ (l : List Entry). Has (made l) v.name) k.is (Each-at (λ a. Has (made x.log) a) (names_of x.parts) v.name s.fair.made_here v.is_in))) [
      | inl g ↦ before (made-cases e k.earlier v.name g)
      | inr f ↦ absurd (not-covered v.name v.is_in ((f new new-made).covers both))
    ]
      where
        both : Overlap v.name new
        both =
            let a = v.covers.min in let b = v.covers.max in let d = over.min in let f = over.max in let g = c-sized in
            record { partition = v.covers.partition ∙ sym over.partition; low = omega (arith, a, b, d, f, g); high = omega (arith, a, b, d, f, g) }

        before : (result_name e ≡ Some v.name) ⊎ Has (made k.earlier) v.name → Has (names_of x.parts) c
        before (inl g) = absurd (not-covered v.name v.is_in (subst (λ (a : Name). Covers a new) (some-same new v.name (sym r ∙ g)) (Covers-refl new)))
        before (inr g) = subst (Has (names_of x.parts)) (covers-none-but-itself schema k.earlier base.0 v.name c g h v.covers) v.is_in

    gone : Dropped x.log c → ⊥
    gone d = elim (drop-past schema k.later (e ∷ k.earlier) c.partition f.0 lawful (subst (λ (l : List Entry). DropIn l c.partition f.0) k.is f.1)) [
      | inl g ↦ in-base g
      | inr g ↦ w.not_dropped (record { name = new; makes = makes; dropped = drop-takes schema x.log c.partition f.0 new s.lawful f.1 (made-at x.log i new makes) (sym over.partition) (past g) })
    ]
      where
        f : (n : ℕ) × DropIn x.log c.partition n × (c.max ≤ n)
        f = drop-of x.log c d

        in-base : DropIn (e ∷ k.earlier) c.partition f.0 → ⊥
        in-base (inl g) = let z : result_name (DropRange c.partition f.0) ≡ Some new = ap result_name (sym g) ∙ r in absurd (cc)
        in-base (inr g) = let u = (tight schema k.earlier base.0).above c h f.0 g in let v = f.2 in let z = c-sized in absurd (omega (arith, u, v, z))

        past : AboveUsed (e ∷ k.earlier) c.partition f.0 → new.max ≤ f.0
        past g = let u = g new.max (subst (λ (o : Option ℕ). Used (e ∷ k.earlier) o new.max) over.partition (made-used schema (e ∷ k.earlier) new base new-made)) in omega (arith, u)

-- the sources of a merge that waits are active, where all before it is done
pub merge-ready : (schema : Shape) (x : Replica) (i : ℕ) (new : Name) (olds : List Name) (count : ℕ) → IsStanding schema x → Waits x i → ((j : ℕ) → j < i → done_at x.done j ≡ true) → entry_at x.log i ≡ Some (Merge new olds count) → Each (Has (names_of x.parts)) olds
merge-ready schema x i new [] count s w done q = tt
merge-ready schema x i new (a ∷ []) count s w done q =
    let k = cut-at x.log i (Merge new (a ∷ []) count) q in
    absurd (lawful-behind schema k.later (Merge new (a ∷ []) count ∷ k.earlier) (subst (Lawful schema) k.is s.lawful)).1
merge-ready schema x i new (a ∷ b ∷ rest) count s w done q =
    Each-all (Has (names_of x.parts)) (a ∷ b ∷ rest) (λ c h. needed-active schema x i (Merge new (a ∷ b ∷ rest) count) new c k s w done q refl (source-live k.earlier t a b rest new count m c h) (over c h))
  where
    k : CutAt x.log i (Merge new (a ∷ b ∷ rest) count)
    k = cut-at x.log i (Merge new (a ∷ b ∷ rest) count) q

    l : Lawful schema (Merge new (a ∷ b ∷ rest) count ∷ k.earlier)
    l = lawful-behind schema k.later (Merge new (a ∷ b ∷ rest) count ∷ k.earlier) (subst (Lawful schema) k.is s.lawful)

    t : Tight k.earlier
    t = tight schema k.earlier l.0

    m : Merges k.earlier a b rest new count
    m = l.1

    over : (c : Name) → Has (a ∷ b ∷ rest) c → Covers new c
    over c h = subst (λ (y : Name). Covers y c) (sym m.name) (merged-covers a (b ∷ rest) c (sources-lined k.earlier t a b rest new count m) (source-fits k.earlier t a b rest new count m) h)

version-above : (a : Name) → a.mutation ≤ data_version a
version-above a = grind (arith, nat_tests)

-- so is the part that a mutate changes
pub mutate-ready : (schema : Shape) (x : Replica) (i : ℕ) (old new : Name) (upto count mcount : ℕ) → IsStanding schema x → Waits x i → ((j : ℕ) → j < i → done_at x.done j ≡ true) → entry_at x.log i ≡ Some (Mutate old new upto count mcount) → Has (names_of x.parts) old
mutate-ready schema x i old new upto count mcount s w done q =
    needed-active schema x i (Mutate old new upto count mcount) new old k s w done q refl m.is_live over
  where
    k : CutAt x.log i (Mutate old new upto count mcount)
    k = cut-at x.log i (Mutate old new upto count mcount) q

    l : Lawful schema (Mutate old new upto count mcount ∷ k.earlier)
    l = lawful-behind schema k.later (Mutate old new upto count mcount ∷ k.earlier) (subst (Lawful schema) k.is s.lawful)

    m : IsMutate k.earlier old new upto count mcount
    m = l.1

    over : Covers new old
    over =
        let sized = (tight schema k.earlier l.0).sized old m.is_live in
        let a = pending-above k.earlier old new upto count mcount m in
        let b = version-above old in
        subst (λ (y : Name). Covers y old) (sym m.name) (record { partition = refl; min = omega arith; max = omega arith; level = omega arith; mutation = omega (arith, a, b) })

-- ---- a Get that waits

-- a covered name has a part that covers it
part-of : (parts : List Copied) (a : Name) → CoveredBy (names_of parts) a → (part : Copied) × Has parts part × Covers part.name a
part-of [] a c = absurd c.is_in
part-of (z ∷ zs) a c = found c.is_in (λ g. part-of zs a (record { name = c.name; is_in = g; covers = c.covers }))
  where
    found : (z.name ≡ c.name) ⊎ Has (names_of zs) c.name → (Has (names_of zs) c.name → (part : Copied) × Has zs part × Covers part.name a) → (part : Copied) × Has (z ∷ zs) part × Covers part.name a
    found (inl g) f = (z, inl refl, subst (λ (b : Name). Covers b a) (sym g) c.covers)
    found (inr g) f = let r = f g in (r.0, inr r.1, r.2)

pub nat-same : (i j : ℕ) → (i ≡ j) ⊎ (i ≡ j → ⊥)
nat-same i j = go (nat_eq i j) refl
  where
    go : (b : Bool) → nat_eq i j ≡ b → (i ≡ j) ⊎ (i ≡ j → ⊥)
    go true q = inl (grind (arith, nat_tests))
    go false q = inr (λ e. absurd (grind (arith, nat_tests)))

shorter : (y log : List Entry) → IsPrefix y log → length y ≤ length log
shorter y log g = let k = longer g.gained in let e : length log ≡ length (g.gained ++ y) = ap (λ (l : List Entry). length l) g.is in omega (arith, k, e)
  where
    longer : (us : List Entry) → length y ≤ length (us ++ y)
    longer [] = omega arith
    longer (u ∷ us) = let k = longer us in omega (arith, k)

-- where its source is up, the block is staged here, or another replica that is up has it
pub get-ready : (s : Cluster) (x : Replica) (i : ℕ) (p : Option ℕ) (n source need : ℕ) (digest : List ℕ) → IsWhole s → Has s.replicas x → x.log ≡ s.table.log → Waits x i → entry_at x.log i ≡ Some (Get p n digest source need)
    → ((y : Replica) → Has s.replicas y → y.number ≡ source → y.up ≡ true) → KeepsBlock x p n digest ⊎ IsHeld s x.number (length x.log) p n digest
get-ready s x i p n source need digest w h e v q up = go (w.committed i p n source need digest (subst (λ (l : List Entry). entry_at l i ≡ Some (Get p n digest source need)) e q)).1
  where
    makes : MakesAt x.log i (block_name p n)
    makes = record { entry = Get p n digest source need; stands = q; makes = refl }

    not-waiting : (y : Replica) → y ≡ x → CoveredBy (names_of y.parts) (block_name p n) ⊎ Dropped y.log (block_name p n) → ⊥
    not-waiting y g (inl c) = v.open_entry (inr (inr (record { name = block_name p n; makes = makes; covered = subst (λ (z : Replica). CoveredBy (names_of z.parts) (block_name p n)) g c })))
    not-waiting y g (inr d) = v.not_dropped (record { name = block_name p n; makes = makes; dropped = subst (λ (z : Replica). Dropped z.log (block_name p n)) g d })

    go : HasReplica s.replicas source → KeepsBlock x p n digest ⊎ IsHeld s x.number (length x.log) p n digest
    go r = decide (nat-same y.number x.number)
      where
        y : Replica
        y = r.replica

        f : Follows s y
        f = Each-at (Follows s) s.replicas y w.follow r.is_in

        kept : IsKeptAt y p n digest
        kept = f.sources p n need digest (subst (λ j. Has s.table.log (Get p n digest j need)) (sym r.numbered) (entry-has s.table.log i (Get p n digest source need) (subst (λ (l : List Entry). entry_at l i ≡ Some (Get p n digest source need)) e q)))

        decide : (y.number ≡ x.number) ⊎ (y.number ≡ x.number → ⊥) → KeepsBlock x p n digest ⊎ IsHeld s x.number (length x.log) p n digest
        decide (inl g) = own (one-replica s y x w r.is_in h g) kept
          where
            own : y ≡ x → IsKeptAt y p n digest → KeepsBlock x p n digest ⊎ IsHeld s x.number (length x.log) p n digest
            own z (inl a) = inl (subst (λ (o : Replica). KeepsBlock o p n digest) z a)
            own z (inr a) = absurd (not-waiting y z a)
        decide (inr g) = other kept
          where
            is-other : IsOther s x.number y
            is-other = record { is_in = r.is_in; up = up y r.is_in r.numbered; other = g }

            other : IsKeptAt y p n digest → KeepsBlock x p n digest ⊎ IsHeld s x.number (length x.log) p n digest
            other (inl a) = inr (record { holder = y; other = is-other; has = inr a })
            other (inr (inl a)) = let z = part-of y.parts (block_name p n) a in inr (record { holder = y; other = is-other; has = inl (z.0, z.1, z.2, within z.0 z.1) })
              where
                within : (part : Copied) → Has y.parts part → part.place < length x.log
                within part k =
                    let m = (Each-at (λ o. MakesAt y.log o.place o.name × IsCopied s.table.schema y.log o) y.parts part f.stands.parts k).0 in
                    let b = entry-below y.log part.place m.entry m.stands in
                    let c = shorter y.log s.table.log f.prefix in
                    let d : length x.log ≡ length s.table.log = ap (λ (l : List Entry). length l) e in
                    omega (arith, b, c, d)
            other (inr (inr a)) = absurd (not-waiting x refl (inr (subst (λ (l : List Entry). Dropped l (block_name p n)) (sym f.prefix.is ∙ sym e) (dropped-behind f.prefix.gained y.log (block_name p n) a))))
