-- What a replica has shown is known there: the places of the log whose results its parts cover.
use Rattle.std.proofs.Common.{◌≡◌, ℕ, ◌≤◌, inl, inr, ◌||◌, Bool, true, false, cond, List, [], ◌∷◌, ◌++◌, length, refl, sym, ap, subst, arith, ◌∙◌, nat_eq}
use Rattle.std.proofs.lemmas.Bool.Decides.{nat_tests}
use Rattle.std.specs.List.{list_any}
use Rattle.std.specs.Option.{option_and_then}
use Rattle.std.specs.declared.option.Option.{Option}
use Rattle.std.specs.declared.option.Option.TheVariants.{Some, None}
use Rattle.rmt_values.specs.Rows.{Shape}
use Rattle.rmt_names.specs.Names.{Name, Covers, covers}
use Rattle.rmt_entries.specs.Entries.{result_name}
use Rattle.rmt_entries.specs.declared.entry.Entry.{Entry}
use Rattle.rmt_entries.specs.declared.entry.Entry.TheVariants.{Get, Merge, Mutate, Mutation, DropRange}
use Rattle.rmt_model.specs.Words.{Has, Each, Pairwise}
use Rattle.rmt_model.specs.Live.{made, made_with, TakesAway}
use Rattle.rmt_model.specs.Lawful.{Lawful, entry_at}
use Rattle.rmt_model.specs.Laws.{Supersedes}
use Rattle.rmt_model.specs.Fair.{CoveredBy, MadeAtMark, DroppedAtMark, AreFair}
use Rattle.rmt_model.specs.CopiedParts.{names_of}
use Rattle.rmt_model.proofs.Lists.{Each-at, Each-all, covers-true}
use Rattle.rmt_model.proofs.LiveLaws.{Covers-antisym, later-covers}
use Rattle.rmt_model.proofs.VersionLaws.{made-sized}
use Rattle.rmt_model.proofs.Drops.{some-same, newest-made, entry-below, entry-cases, entry-older}
use Rattle.rmt_events.specs.Views.{Replica}
use Rattle.rmt_events.specs.Sound.{IsSoundTable}
use Rattle.rmt_events.specs.Clusters.{Cluster}
use Rattle.rmt_events.specs.ClusterChanges.{IsNumbered}
use Rattle.rmt_events.specs.Whole.{Follows, IsWhole}
use Rattle.rmt_events.proofs.Copies.{made-behind, entry-behind}
use Rattle.rmt_events.proofs.FairSteps.{fair-both}
use Rattle.rmt_statement_model.specs.TableStates.{TableState, covered_by, is_shown, learned_shown, shown_at}
use Rattle.rmt_statement_model.specs.Shows.{Knows, EachKnows, Shows}
use Rattle.rmt_statement_model.proofs.KnowsLaws.{known-more, neither}

-- ---- what names cover

off : {A : Type 0} → false ≡ true → A
off e = absurd (cc)

-- one of them covers the name
covers-one : (names : List Name) (a : Name) → list_any (λ b. covers b a) names ≡ true → CoveredBy names a
covers-one [] a h = off h
covers-one (b ∷ names) a h = go (covers b a) refl h (covers-one names a)
  where
    go : (v : Bool) → covers b a ≡ v → (v || list_any (λ c. covers c a) names) ≡ true → (list_any (λ c. covers c a) names ≡ true → CoveredBy names a) → CoveredBy (b ∷ names) a
    go true e k f = record { name = b; is_in = inl refl; covers = covers-true b a e }
    go false e k f = let c = f k in record { name = c.name; is_in = inr c.is_in; covers = c.covers }

-- the entry makes a name that one of the names covers
record Makes (names : List Name) (e : Entry) : Type 0 where
  pub name : Name
  pub makes : result_name e ≡ Some name
  pub covered : CoveredBy names name

-- so does the entry at a place that is shown
shown-makes : (log : List Entry) (names : List Name) (i : ℕ) (e : Entry) → entry_at log i ≡ Some e → is_shown log names i ≡ true → Makes names e
shown-makes log names i e q h = go (result_name e) refl (sym (ap (λ (o : Option Entry). covered_by names (option_and_then result_name o)) q) ∙ h)
  where
    go : (o : Option Name) → result_name e ≡ o → covered_by names o ≡ true → Makes names e
    go None r k = off k
    go (Some a) r k = record { name = a; makes = r; covered = covers-one names a k }

-- a place that is shown has an entry
shown-entry : (log : List Entry) (names : List Name) (i : ℕ) → is_shown log names i ≡ true → (e : Entry) × (entry_at log i ≡ Some e)
shown-entry log names i h = go (entry_at log i) refl h
  where
    go : (o : Option Entry) → entry_at log i ≡ o → covered_by names (option_and_then result_name o) ≡ true → (e : Entry) × (entry_at log i ≡ Some e)
    go None q k = off k
    go (Some e) q k = (e, q)

-- ---- fair names

-- the newest entry stands at the length of the others
newest-at : (e : Entry) (log : List Entry) → entry_at (e ∷ log) (length log) ≡ Some e
newest-at e log =
    let t : nat_eq (length log) (length log) ≡ true = grind (arith, nat_tests) in
    ap (λ (b : Bool). cond b (Some e) (entry_at log (length log))) t

-- a drop makes no part
makes-no-part : (e : Entry) (a b : Name) → TakesAway e a → result_name e ≡ Some b → ⊥
makes-no-part (Get p n digest source need) a b t r = t
makes-no-part (Merge new sources count) a b t r = t
makes-no-part (Mutate old new upto count mcount) a b t r = t
makes-no-part (Mutation id numbers command) a b t r = t
makes-no-part (DropRange p n) a b t r = absurd (cc)

-- where each marked entry makes what is covered, no drop is marked
none-dropped : (log : List Entry) (m : ℕ → Bool) (names : List Name) (a : Name) → ((j : ℕ) (e : Entry) → entry_at log j ≡ Some e → m j ≡ true → Makes names e) → DroppedAtMark log m a → ⊥
none-dropped [] m names a f d = d
none-dropped (e ∷ log) m names a f (inl d) = none-dropped log m names a (λ j x q. f j x (entry-older e log j x q)) d
none-dropped (e ∷ log) m names a f (inr d) = let k = f (length log) e (newest-at e log) d.0 in makes-no-part e a k.name d.2 k.makes

-- and what a marked entry makes is covered
all-covered : (log : List Entry) (m : ℕ → Bool) (names : List Name) (a : Name) → ((j : ℕ) (e : Entry) → entry_at log j ≡ Some e → m j ≡ true → Makes names e) → MadeAtMark log m a → CoveredBy names a
all-covered [] m names a f d = absurd d
all-covered (e ∷ log) m names a f (inl d) = let k = f (length log) e (newest-at e log) d.0 in subst (CoveredBy names) (some-same k.name a (sym k.makes ∙ d.1)) k.covered
all-covered (e ∷ log) m names a f (inr d) = all-covered log m names a (λ j x q. f j x (entry-older e log j x q)) d

-- names that are fair for some places are so for those whose results they cover, by whatever longer log these are told
fair-shown : (gained log : List Entry) (m : ℕ → Bool) (names : List Name) → AreFair log m names → AreFair log (is_shown (gained ++ log) names) names
fair-shown gained log m names f = record {
  apart = f.apart;
  made_here = f.made_here;
  kept = Each-all (λ a. DroppedAtMark log (is_shown (gained ++ log) names) a → ⊥) names (λ a h. none-dropped log (is_shown (gained ++ log) names) names a told);
  answered = λ a h. inl (all-covered log (is_shown (gained ++ log) names) names a told h);
}
  where
    told : (j : ℕ) (e : Entry) → entry_at log j ≡ Some e → is_shown (gained ++ log) names j ≡ true → Makes names e
    told j e q h = shown-makes (gained ++ log) names j e (entry-behind gained log j e q) h

-- ---- what is made later isn't covered

-- a name that was made before covers nothing that is made then
covers-no-later : (schema : Shape) (e : Entry) (log : List Entry) (a b : Name) → Lawful schema (e ∷ log) → result_name e ≡ Some a → Has (made log) b → Covers b a → ⊥
covers-no-later schema e log a b l r h c =
    let all : Pairwise Supersedes (made_with (Some a) (made log)) = subst (λ (o : Option Name). Pairwise Supersedes (made_with o (made log))) r (later-covers schema (e ∷ log) l) in
    let s : Supersedes a b = Each-at (Supersedes a) (made log) b all.0 h in
    let z : a.min ≤ a.max = made-sized schema (e ∷ log) a l (newest-made e log a r) in
    let i = c.min in let j = c.max in
    s.differ (Covers-antisym a b (s.covers (record { partition = sym c.partition; low = omega (arith, z, j); high = omega (arith, z, i) })) c)

-- so names that were made in a copy cover nothing that is made behind it
none-behind : (schema : Shape) (gained log : List Entry) (names : List Name) → Lawful schema (gained ++ log) → Each (λ b. Has (made log) b) names → (i : ℕ) → length log ≤ i → (e : Entry) → entry_at (gained ++ log) i ≡ Some e → Makes names e → ⊥
none-behind schema [] log names l m i g e q k = let w = entry-below log i e q in omega (arith, w, g)
none-behind schema (x ∷ gained) log names l m i g e q k = elim (entry-cases x (gained ++ log) i e q) [
  | inl c ↦
      let b = k.covered in
      covers-no-later schema x (gained ++ log) k.name b.name l (ap result_name c.1 ∙ k.makes)
      (made-behind gained log b.name (Each-at (λ (y : Name). Has (made log) y) names b.name m b.is_in)) b.covers
  | inr c ↦ none-behind schema gained log names l.0 m i g e c k
]

-- ---- what is known

-- a replica knows what its parts cover
knows-shown : (schema : Shape) (x : Replica) (gained : List Entry) (known : ℕ → Bool) → Lawful schema (gained ++ x.log) → Knows x known → Knows x (λ j. is_shown (gained ++ x.log) (names_of x.parts) j || known j)
knows-shown schema x gained known l k = record {
  within = λ j g. neither (is_shown (gained ++ x.log) (names_of x.parts) j) (known j) (past j g (is_shown (gained ++ x.log) (names_of x.parts) j) refl) (k.within j g);
  fair = fair-both x.log (is_shown (gained ++ x.log) (names_of x.parts)) known (names_of x.parts) (fair-shown gained x.log known (names_of x.parts) k.fair) k.fair;
}
  where
    past : (j : ℕ) → length x.log ≤ j → (b : Bool) → is_shown (gained ++ x.log) (names_of x.parts) j ≡ b → b ≡ false
    past j g false e = refl
    past j g true e =
        let r = shown-entry (gained ++ x.log) (names_of x.parts) j e in
        absurd (none-behind schema gained x.log (names_of x.parts) l (AreFair.made_here k.fair) j g r.0 r.1 (shown-makes (gained ++ x.log) (names_of x.parts) j r.0 r.1 e))

-- and each other replica what it knew
shown-known : (s : Cluster) (x : Replica) (known : ℕ → ℕ → Bool) → IsWhole s → Has s.replicas x → EachKnows s.replicas known → EachKnows s.replicas (learned_shown s.table.log (names_of x.parts) known x.number)
shown-known s x known w h f = known-more s x known (is_shown s.table.log (names_of x.parts)) w h here f
  where
    follows : Follows s x
    follows = Each-at (Follows s) s.replicas x w.follow h

    here : Knows x (λ j. is_shown s.table.log (names_of x.parts) j || known x.number j)
    here =
        subst (λ (l : List Entry). Knows x (λ j. is_shown l (names_of x.parts) j || known x.number j)) (sym follows.prefix.is)
        (knows-shown s.table.schema x follows.prefix.gained (known x.number) (subst (Lawful s.table.schema) follows.prefix.is (IsSoundTable.lawful w.table)) (f x h))

-- the cluster shows the state in which that is known
pub shown-shows : (s : Cluster) (k : ℕ) (x : Replica) (t : TableState) → IsWhole s → IsNumbered s k x → Shows s t → Shows s (shown_at k (names_of x.parts) t)
shown-shows s k x t w at h = record {
  table = record {
    schema = h.table.schema;
    log = h.table.log;
    next = h.table.next;
    quorum = h.table.quorum;
    fetching = h.table.fetching;
    knows = subst (λ (l : List Entry). EachKnows s.replicas (learned_shown l (names_of x.parts) t.known k)) (sym h.table.log)
        (subst (λ (n : ℕ). EachKnows s.replicas (learned_shown s.table.log (names_of x.parts) t.known n)) at.number (shown-known s x t.known w at.is_in h.table.knows));
  };
  blocks = h.blocks;
}
