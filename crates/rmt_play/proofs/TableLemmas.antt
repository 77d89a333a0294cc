-- Tables by their names, in a player and in the world that it is in, and a world that rests.
use Rattle.std.proofs.Common.{◌≡◌, ◌∙◌, ℕ, inl, zero, suc, ◌<◌, Bool, true, false, cond, List, [], ◌∷◌, ◌++◌, length, map, refl, ap, sym, subst, arith}
use Rattle.std.specs.Prelude.{slice_get, slice_set}
use Rattle.std.specs.Str.{bytes_eq}
use Rattle.std.specs.declared.option.Option.TheVariants.{Some, None}
use Rattle.rmt_model.specs.Words.{Each}
use Rattle.rmt_model.proofs.Drops.{some-same}
use Rattle.rmt_events.specs.Clusters.{Cluster}
use Rattle.rmt_statement_model.specs.TableStates.{TableState}
use Rattle.rmt_play.specs.World.{Table}
use Rattle.rmt_play.specs.Checks.{table_of}
use Rattle.rmt_play.specs.Plays.{with_table}
use Rattle.rmt_play.specs.Shown.{AreShown, HasReplicas}
use Rattle.rmt_statement_model.specs.Rests.{Rests}
use Rattle.rmt_play.specs.World.{World}
use Rattle.rmt_play.specs.WorldRests.{AreRested, RestsAll}
use Rattle.rmt_play.specs.PlayerSteps.{Sights, clusters_seen, NamedTable, PlayerView, is_up, IsAtAll, IsTableOf, ShowTables, IsIn, Moves}
use Rattle.rmt_play.proofs.FoundTables.{HasNone}

-- ---- lists

pub get-below : {A : Type 0} (xs : List A) (i : ℕ) (x : A) → slice_get xs i ≡ Some x → i < length xs
get-below [] i x e = absurd (cc)
get-below (y ∷ xs) zero x e = omega arith
get-below (y ∷ xs) (suc i) x e = let l = get-below xs i x e in omega (arith, l)

-- what holds of each holds of the one at a place
pub each-get : {A : Type 0} (P : A → Type 0) (xs : List A) (i : ℕ) (x : A) → slice_get xs i ≡ Some x → Each P xs → P x
each-get P [] i x e f = absurd (cc)
each-get P (y ∷ xs) zero x e f = subst P (some-same y x e) f.0
each-get P (y ∷ xs) (suc i) x e f = each-get P xs i x e f.1

pub each-more : {A : Type 0} (P : A → Type 0) (xs : List A) (x : A) → Each P xs → P x → Each P (xs ++ x ∷ [])
each-more P [] x f h = (h, tt)
each-more P (y ∷ xs) x f h = (f.0, each-more P xs x f.1 h)

-- ---- tables of a world and of a player

pub length-shown : {e : Sights} (cs : List (NamedTable e)) (ts : List Table) → ShowTables cs ts → length ts ≡ length cs
length-shown [] [] s = refl
length-shown [] (t ∷ ts) s = absurd s
length-shown (c ∷ cs) [] s = absurd s
length-shown (c ∷ cs) (t ∷ ts) s = ap suc (length-shown cs ts s.1)

pub append-shown : {e : Sights} (cs : List (NamedTable e)) (ts : List Table) (c : NamedTable e) (t : Table) → ShowTables cs ts → IsTableOf c t → ShowTables (cs ++ c ∷ []) (ts ++ t ∷ [])
append-shown [] [] c t s h = (h, tt)
append-shown [] (u ∷ ts) c t s h = absurd s
append-shown (d ∷ cs) [] c t s h = absurd s
append-shown (d ∷ cs) (u ∷ ts) c t s h = (s.0, append-shown cs ts c t s.1 h)

pub shown-clusters : (cs : List (NamedTable clusters_seen)) (ts : List Table) → ShowTables cs ts → AreShown (map (λ c. c.table) cs) ts
shown-clusters [] [] s = tt
shown-clusters [] (t ∷ ts) s = absurd s
shown-clusters (c ∷ cs) [] s = absurd s
shown-clusters (c ∷ cs) (t ∷ ts) s = (sym (s.0.cluster refl), s.0.shows, shown-clusters cs ts s.1)

-- the clusters of a player's tables have its replicas
pub at-all-clusters : (count : ℕ) (up : List Bool) (ts : List (NamedTable clusters_seen)) → Each (λ t. IsAtAll clusters_seen count up t.table) ts → Each (HasReplicas count (is_up count up)) (map (λ t. t.table) ts)
at-all-clusters count up [] e = tt
at-all-clusters count up (t ∷ ts) e = (record { counted = e.0.all; are_up = e.0.ups_are; free = e.0.free }, at-all-clusters count up ts e.1)

-- ---- the table of a name

-- the table of a name in the world, which the one at a place shows
pub record FoundIn {e : Sights} (cs : List (NamedTable e)) (ts : List Table) (name : List ℕ) (place : ℕ) (c : NamedTable e) : Type 0 where
  pub table : Table
  pub found : table_of ts name ≡ Some table
  pub is : IsTableOf c table
  pub set : (d : e.Table) (v : TableState) (x : Cluster) → (e.workers ≡ false → x ≡ (e.seen d).cluster) → (e.seen d).shows v → ShowTables (slice_set cs place (record c { table = d })) (with_table ts name (record table { state = v; cluster = x }))

not-true : (b : Bool) → (b ≡ true → ⊥) → b ≡ false
not-true true f = absurd (f refl)
not-true false f = refl

pub found-in : {e : Sights} (cs : List (NamedTable e)) (ts : List Table) (name : List ℕ) (place : ℕ) (c : NamedTable e) → slice_get cs place ≡ Some c → bytes_eq c.name name ≡ true
    → ((j : ℕ) (d : NamedTable e) → j < place → slice_get cs j ≡ Some d → bytes_eq d.name name ≡ true → ⊥) → ShowTables cs ts → FoundIn cs ts name place c
found-in {e} [] ts name place c p q f s = absurd (cc)
found-in {e} (b ∷ cs) [] name place c p q f s = absurd s
found-in {e} (b ∷ cs) (t ∷ ts) name zero c p q f s =
    let same : b ≡ c = cc in
    let here : bytes_eq t.name name ≡ true = ap (λ (n : List ℕ). bytes_eq n name) (s.0.name ∙ ap (λ (x : NamedTable e). x.name) same) ∙ q in
    record {
      table = t;
      found = ap (λ (x : Bool). cond x (Some t) (table_of ts name)) here;
      is = subst (λ (x : NamedTable e). IsTableOf x t) same s.0;
      set = λ d v x n h. subst (λ (us : List Table). ShowTables (record c { table = d } ∷ cs) us)
          (sym (ap (λ (b : Bool). cond b (record t { state = v; cluster = x } ∷ ts) (t ∷ with_table ts name (record t { state = v; cluster = x }))) here))
          (record { name = s.0.name ∙ ap (λ (y : NamedTable e). y.name) same; cluster = n; shows = h }, s.1);
    }
found-in {e} (b ∷ cs) (t ∷ ts) name (suc place) c p q f s =
    let r = found-in cs ts name place c p q (λ j d l g. f (suc j) d (omega (arith, l)) g) s.1 in
    let other : bytes_eq t.name name ≡ false = ap (λ (n : List ℕ). bytes_eq n name) s.0.name ∙ not-true (bytes_eq b.name name) (f 0 b (omega arith) refl) in
    record {
      table = r.table;
      found = ap (λ (x : Bool). cond x (Some t) (table_of ts name)) other ∙ r.found;
      is = r.is;
      set = λ d v x n h. subst (λ (us : List Table). ShowTables (b ∷ slice_set cs place (record c { table = d })) us)
          (sym (ap (λ (b : Bool). cond b (record r.table { state = v; cluster = x } ∷ ts) (t ∷ with_table ts name (record r.table { state = v; cluster = x }))) other))
          (s.0, r.set d v x n h);
    }

pub none-in : {e : Sights} (cs : List (NamedTable e)) (ts : List Table) (name : List ℕ) → HasNone cs name → ShowTables cs ts → table_of ts name ≡ None
none-in [] [] name f s = refl
none-in [] (t ∷ ts) name f s = absurd s
none-in (c ∷ cs) [] name f s = absurd s
none-in (c ∷ cs) (t ∷ ts) name f s =
    let other : bytes_eq t.name name ≡ false = ap (λ (n : List ℕ). bytes_eq n name) s.0.name ∙ not-true (bytes_eq c.name name) (f 0 c refl) in
    ap (λ (x : Bool). cond x (Some t) (table_of ts name)) other ∙ none-in cs ts name (λ j d p. f (suc j) d p) s.1

-- a table that is put in its own place
pub with-same : (ts : List Table) (name : List ℕ) (t : Table) → table_of ts name ≡ Some t → with_table ts name t ≡ ts
with-same [] name t e = refl
with-same (u ∷ ts) name t e = go (bytes_eq u.name name) e (with-same ts name t)
  where
    go : (b : Bool) → cond b (Some u) (table_of ts name) ≡ Some t → (table_of ts name ≡ Some t → with_table ts name t ≡ ts) → cond b (t ∷ ts) (u ∷ with_table ts name t) ≡ u ∷ ts
    go true q f = let same : u ≡ t = cc in ap (λ (x : Table). x ∷ ts) (sym same)
    go false q f = ap (λ (us : List Table). u ∷ us) (f q)

-- ---- a world that rests

-- one that rests may be as it was
pub rested-none : (w : Bool) (ts : List Table) → AreRested w ts ts
rested-none w [] = tt
rested-none w (t ∷ ts) = (refl, inl refl, rested-none w ts)

pub rests-all-none : (w : Bool) (world : World) → RestsAll w world world
rests-all-none w world = record { tables = rested-none w world.tables; rest = refl }

-- nothing changes, and the world needn't rest
pub stays : {e : Sights} (p : PlayerView e) (Change : World → World → Type 0) → ((w : World) → IsIn p w → Change w w) → Moves p Change p
stays {e} p Change f w i = record { world = w; holds = record { at = w; rests = rests-all-none e.workers w; change = f w i }; is_in = i }

-- or one of its tables rests
rested-one : (w : Bool) (ts : List Table) (name : List ℕ) (t : Table) (a : TableState) → table_of ts name ≡ Some t → Rests w t.state a → AreRested w ts (with_table ts name (record t { state = a }))
rested-one w [] name t a e r = tt
rested-one w (u ∷ ts) name t a e r = go (bytes_eq u.name name) e (rested-one w ts name t a)
  where
    go : (b : Bool) → cond b (Some u) (table_of ts name) ≡ Some t → (table_of ts name ≡ Some t → Rests w t.state a → AreRested w ts (with_table ts name (record t { state = a }))) → AreRested w (u ∷ ts) (cond b (record t { state = a } ∷ ts) (u ∷ with_table ts name (record t { state = a })))
    go true q f = let same : u ≡ t = cc in (ap (λ (x : Table). record x { state = a }) (sym same), subst (λ (x : Table). Rests w x.state a) (sym same) r, rested-none w ts)
    go false q f = (refl, inl refl, f q r)

pub rests-one : (w : Bool) (world : World) (name : List ℕ) (t : Table) (a : TableState) → table_of world.tables name ≡ Some t → Rests w t.state a → RestsAll w world (record world { tables = with_table world.tables name (record t { state = a }) })
rests-one w world name t a e r = record { tables = rested-one w world.tables name t a e r; rest = refl }

-- the table that was put in the place of one of its name
pub found-put : (ts : List Table) (name : List ℕ) (t u : Table) → table_of ts name ≡ Some t → u.name ≡ t.name → table_of (with_table ts name u) name ≡ Some u
found-put [] name t u e n = absurd (cc)
found-put (x ∷ ts) name t u e n = go (bytes_eq x.name name) refl e (found-put ts name t u)
  where
    go : (b : Bool) → bytes_eq x.name name ≡ b → cond b (Some x) (table_of ts name) ≡ Some t → (table_of ts name ≡ Some t → u.name ≡ t.name → table_of (with_table ts name u) name ≡ Some u) → table_of (cond b (u ∷ ts) (x ∷ with_table ts name u)) name ≡ Some u
    go true c q f = let same : x ≡ t = cc in ap (λ (b : Bool). cond b (Some u) (table_of ts name)) (ap (λ (m : List ℕ). bytes_eq m name) (n ∙ ap (λ (y : Table). y.name) (sym same)) ∙ c)
    go false c q f = ap (λ (b : Bool). cond b (Some x) (table_of (with_table ts name u) name)) c ∙ f q n

-- and is replaced again
pub with-again : (ts : List Table) (name : List ℕ) (t u v : Table) → table_of ts name ≡ Some t → u.name ≡ t.name → with_table (with_table ts name u) name v ≡ with_table ts name v
with-again [] name t u v e n = refl
with-again (x ∷ ts) name t u v e n = go (bytes_eq x.name name) refl e (with-again ts name t u v)
  where
    go : (b : Bool) → bytes_eq x.name name ≡ b → cond b (Some x) (table_of ts name) ≡ Some t → (table_of ts name ≡ Some t → u.name ≡ t.name → with_table (with_table ts name u) name v ≡ with_table ts name v)
        → with_table (cond b (u ∷ ts) (x ∷ with_table ts name u)) name v ≡ cond b (v ∷ ts) (x ∷ with_table ts name v)
    go true c q f = let same : x ≡ t = cc in ap (λ (b : Bool). cond b (v ∷ ts) (u ∷ with_table ts name v)) (ap (λ (m : List ℕ). bytes_eq m name) (n ∙ ap (λ (y : Table). y.name) (sym same)) ∙ c)
    go false c q f = ap (λ (b : Bool). cond b (v ∷ with_table ts name u) (x ∷ with_table (with_table ts name u) name v)) c ∙ ap (λ (us : List Table). x ∷ us) (f q n)

-- ---- what a world that rested has still

-- whether there is a table of a name is told by the names
pub none-named : (ts us : List Table) (name : List ℕ) → map (λ t. t.name) us ≡ map (λ t. t.name) ts → table_of ts name ≡ None → table_of us name ≡ None
none-named [] [] name e n = refl
none-named [] (u ∷ us) name e n = absurd (cc)
none-named (t ∷ ts) [] name e n = refl
none-named (t ∷ ts) (u ∷ us) name e n = go (bytes_eq t.name name) refl n (none-named ts us name)
  where
    go : (b : Bool) → bytes_eq t.name name ≡ b → cond b (Some t) (table_of ts name) ≡ None → (map (λ x. x.name) us ≡ map (λ x. x.name) ts → table_of ts name ≡ None → table_of us name ≡ None) → table_of (u ∷ us) name ≡ None
    go true c q f = absurd (cc)
    go false c q f =
        let first : u.name ≡ t.name = cc in
        let rest : map (λ x. x.name) us ≡ map (λ x. x.name) ts = cc in
        ap (λ (b : Bool). cond b (Some u) (table_of us name)) (ap (λ (m : List ℕ). bytes_eq m name) first ∙ c) ∙ f rest q

-- the table of a name
pub record IsNamedIn (ts : List Table) (name : List ℕ) : Type 0 where
  pub table : Table
  pub found : table_of ts name ≡ Some table

pub some-named : (ts us : List Table) (name : List ℕ) (t : Table) → map (λ x. x.name) us ≡ map (λ x. x.name) ts → table_of ts name ≡ Some t → IsNamedIn us name
some-named [] us name t e n = absurd (cc)
some-named (x ∷ ts) [] name t e n = absurd (cc)
some-named (x ∷ ts) (u ∷ us) name t e n = go (bytes_eq x.name name) refl n (some-named ts us name t)
  where
    go : (b : Bool) → bytes_eq x.name name ≡ b → cond b (Some x) (table_of ts name) ≡ Some t → (map (λ y. y.name) us ≡ map (λ y. y.name) ts → table_of ts name ≡ Some t → IsNamedIn us name) → IsNamedIn (u ∷ us) name
    go true c q f = let first : u.name ≡ x.name = cc in record { table = u; found = ap (λ (b : Bool). cond b (Some u) (table_of us name)) (ap (λ (m : List ℕ). bytes_eq m name) first ∙ c) }
    go false c q f =
        let first : u.name ≡ x.name = cc in
        let rest : map (λ y. y.name) us ≡ map (λ y. y.name) ts = cc in
        let r = f rest q in
        record { table = r.table; found = ap (λ (b : Bool). cond b (Some u) (table_of us name)) (ap (λ (m : List ℕ). bytes_eq m name) first ∙ c) ∙ r.found }

pub length-named : (ts us : List Table) → map (λ t. t.name) us ≡ map (λ t. t.name) ts → length us ≡ length ts
length-named [] [] e = refl
length-named [] (u ∷ us) e = absurd (cc)
length-named (t ∷ ts) [] e = absurd (cc)
length-named (t ∷ ts) (u ∷ us) e = let rest : map (λ x. x.name) us ≡ map (λ x. x.name) ts = cc in ap suc (length-named ts us rest)

names-rested : (w : Bool) (ts us : List Table) → AreRested w ts us → map (λ t. t.name) us ≡ map (λ t. t.name) ts
names-rested w [] [] r = refl
names-rested w [] (u ∷ us) r = absurd r
names-rested w (t ∷ ts) [] r = absurd r
names-rested w (t ∷ ts) (u ∷ us) r = ap (λ (n : List ℕ). n ∷ map (λ x. x.name) us) (ap (λ (x : Table). x.name) r.0) ∙ ap (λ (ns : List (List ℕ)). t.name ∷ ns) (names-rested w ts us r.2)

-- it has the replicas that it had, and tables of the same names
pub record IsAbout (w v : World) : Type 0 where
  pub replicas : v.replicas ≡ w.replicas
  pub up : v.up ≡ w.up
  pub names : map (λ t. t.name) v.tables ≡ map (λ t. t.name) w.tables

pub about-rested : (workers : Bool) (w v : World) → RestsAll workers w v → IsAbout w v
about-rested workers w v r = record {
  replicas = ap (λ (x : World). x.replicas) r.rest;
  up = ap (λ (x : World). x.up) r.rest;
  names = names-rested workers w.tables v.tables r.tables;
}
