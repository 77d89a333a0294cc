-- Tables with their names: what is said of a list of names and a list of tables.
use Rattle.std.proofs.Common.{◌≡◌, ◌∙◌, ℕ, zero, suc, ◌<◌, ◌-◌, Bool, true, List, [], ◌∷◌, ◌++◌, length, map, refl, ap, sym, subst, arith}
use Rattle.std.specs.Prelude.{slice_get, slice_set}
use Rattle.std.specs.declared.option.Option.{Option}
use Rattle.std.specs.declared.option.Option.TheVariants.{Some, None}
use Rattle.rmt_model.specs.Words.{Each}
use Rattle.rmt_model.proofs.Drops.{some-same}
use Rattle.std.proofs.lemmas.Bool.Decides.{nat_tests}
use Rattle.std.proofs.Common.{◌≤◌, false, cond}
use Rattle.std.specs.Prelude.{nat_le}
use Rattle.rmt_values.specs.declared.limit.Limit.TheVariants as limits
use Rattle.rmt_reply.specs.declared.refusal.Refusal.TheVariants.{LimitReached}
use Rattle.rmt_play.specs.Checks.{too_many_tables}
use Rattle.std.specs.Prelude.{IfOk, OnOk}
use Rattle.std.specs.declared.result.Result.{Result}
use Rattle.std.specs.declared.result.Result.TheVariants.{Ok, Err}
use Rattle.rmt_reply.specs.declared.line.Line.{Line}
use Rattle.rmt_acting.specs.Acting.{Sight, GoesOn, KeepsShape}
use Rattle.rmt_play.specs.PlayerSteps.{Sights, NamedTable, named, IsAtAll, IsSoundPlayer, IsThere, IsPlaceAmong, ChangesAt, ChangesIn, TurnsEach, TurnsAll}
use Rattle.rmt_play.proofs.FoundTables.{IsPlaceOf, IsFound}
use Rattle.rmt_play.proofs.TableLemmas.{each-get}

pub named-names : (e : Sights) (ns : List (List ℕ)) (ts : List e.Table) → length ns ≡ length ts → map (λ t. t.name) (named e ns ts) ≡ ns
named-names e [] ts k = refl
named-names e (n ∷ ns) [] k = absurd (omega (arith, k))
named-names e (n ∷ ns) (t ∷ ts) k = ap (λ (x : List (List ℕ)). n ∷ x) (named-names e ns ts (omega (arith, k)))

pub named-tables : (e : Sights) (ns : List (List ℕ)) (ts : List e.Table) → length ns ≡ length ts → map (λ t. t.table) (named e ns ts) ≡ ts
named-tables e [] [] k = refl
named-tables e [] (t ∷ ts) k = absurd (omega (arith, k))
named-tables e (n ∷ ns) [] k = absurd (omega (arith, k))
named-tables e (n ∷ ns) (t ∷ ts) k = ap (λ (x : List e.Table). t ∷ x) (named-tables e ns ts (omega (arith, k)))

pub named-length : (e : Sights) (ns : List (List ℕ)) (ts : List e.Table) → length ns ≡ length ts → length (named e ns ts) ≡ length ts
named-length e [] [] k = refl
named-length e [] (t ∷ ts) k = absurd (omega (arith, k))
named-length e (n ∷ ns) [] k = absurd (omega (arith, k))
named-length e (n ∷ ns) (t ∷ ts) k = ap suc (named-length e ns ts (omega (arith, k)))

-- the name and the table at a place
pub record IsAtPlace (e : Sights) (ns : List (List ℕ)) (ts : List e.Table) (i : ℕ) (x : NamedTable e) : Type 0 where
  pub name : slice_get ns i ≡ Some x.name
  pub table : slice_get ts i ≡ Some x.table

pub named-at : (e : Sights) (ns : List (List ℕ)) (ts : List e.Table) (i : ℕ) (x : NamedTable e) → slice_get (named e ns ts) i ≡ Some x → IsAtPlace e ns ts i x
named-at e [] ts i x q = absurd (cc)
named-at e (n ∷ ns) [] i x q = absurd (cc)
named-at e (n ∷ ns) (t ∷ ts) zero x q =
    let same : record { name = n; table = t } ≡ x = some-same _ x q in
    record { name = ap (λ (y : NamedTable e). Some y.name) same; table = ap (λ (y : NamedTable e). Some y.table) same }
named-at e (n ∷ ns) (t ∷ ts) (suc i) x q = let r = named-at e ns ts i x q in record { name = r.name; table = r.table }

-- the one at a place
pub named-get : (e : Sights) (ns : List (List ℕ)) (ts : List e.Table) (i : ℕ) (n : List ℕ) (t : e.Table) → slice_get ns i ≡ Some n → slice_get ts i ≡ Some t → slice_get (named e ns ts) i ≡ Some (record { name = n; table = t })
named-get e [] ts i n t p q = absurd (cc)
named-get e (m ∷ ns) [] i n t p q = absurd (cc)
named-get e (m ∷ ns) (u ∷ ts) zero n t p q =
    ap (λ (x : List ℕ). Some (record { name = x; table = u })) (some-same m n p) ∙ ap (λ (x : e.Table). Some (record { name = n; table = x })) (some-same u t q)
named-get e (m ∷ ns) (u ∷ ts) (suc i) n t p q = named-get e ns ts i n t p q

-- there is a table where there is a name
pub record HasTable (e : Sights) (ts : List e.Table) (i : ℕ) : Type 0 where
  pub table : e.Table
  pub there : slice_get ts i ≡ Some table

pub table-there : (e : Sights) (ns : List (List ℕ)) (ts : List e.Table) (i : ℕ) (n : List ℕ) → length ns ≡ length ts → slice_get ns i ≡ Some n → HasTable e ts i
table-there e [] ts i n k p = absurd (cc)
table-there e (m ∷ ns) [] i n k p = absurd (omega (arith, k))
table-there e (m ∷ ns) (t ∷ ts) zero n k p = record { table = t; there = refl }
table-there e (m ∷ ns) (t ∷ ts) (suc i) n k p = let r = table-there e ns ts i n (omega (arith, k)) p in record { table = r.table; there = r.there }

-- a table that changes keeps its name
pub named-set : (e : Sights) (ns : List (List ℕ)) (ts : List e.Table) (i : ℕ) (n : List ℕ) (t : e.Table) → slice_get ns i ≡ Some n → named e ns (slice_set ts i t) ≡ slice_set (named e ns ts) i (record { name = n; table = t })
named-set e [] ts i n t p = absurd (cc)
named-set e (m ∷ ns) [] i n t p = refl
named-set e (m ∷ ns) (u ∷ ts) zero n t p = ap (λ (x : List ℕ). record { name = x; table = t } ∷ named e ns ts) (some-same m n p)
named-set e (m ∷ ns) (u ∷ ts) (suc i) n t p = ap (λ (x : List (NamedTable e)). record { name = m; table = u } ∷ x) (named-set e ns ts i n t p)

-- one more
pub named-more : (e : Sights) (ns : List (List ℕ)) (ts : List e.Table) (n : List ℕ) (t : e.Table) → length ns ≡ length ts → named e (ns ++ n ∷ []) (ts ++ t ∷ []) ≡ named e ns ts ++ record { name = n; table = t } ∷ []
named-more e [] [] n t k = refl
named-more e [] (u ∷ ts) n t k = absurd (omega (arith, k))
named-more e (m ∷ ns) [] n t k = absurd (omega (arith, k))
named-more e (m ∷ ns) (u ∷ ts) n t k = ap (λ (x : List (NamedTable e)). record { name = m; table = u } ∷ x) (named-more e ns ts n t (omega (arith, k)))

-- what holds of each table
pub each-named : (e : Sights) (P : e.Table → Type 0) (ns : List (List ℕ)) (ts : List e.Table) → Each P ts → Each (λ t. P t.table) (named e ns ts)
each-named e P [] ts h = tt
each-named e P (n ∷ ns) [] h = tt
each-named e P (n ∷ ns) (t ∷ ts) h = (h.0, each-named e P ns ts h.1)

pub each-table : (e : Sights) (P : e.Table → Type 0) (ns : List (List ℕ)) (ts : List e.Table) → length ns ≡ length ts → Each (λ t. P t.table) (named e ns ts) → Each P ts
each-table e P [] [] k h = tt
each-table e P [] (t ∷ ts) k h = absurd (omega (arith, k))
each-table e P (n ∷ ns) [] k h = absurd (omega (arith, k))
each-table e P (n ∷ ns) (t ∷ ts) k h = (h.0, each-table e P ns ts (omega (arith, k)) h.1)

-- a table is found by its name
pub place-named : (e : Sights) (ns : List (List ℕ)) (ts : List e.Table) (name : List ℕ) (place : ℕ) → length ns ≡ length ts → IsThere ns name place → IsPlaceOf (named e ns ts) name place
place-named e ns ts name place k f =
    let t = table-there e ns ts place f.found k f.there in
    record {
      table = record { name = f.found; table = t.table };
      there = named-get e ns ts place f.found t.table f.there t.there;
      named = f.named;
      first = λ j x l q b. f.first j x.name l (named-at e ns ts j x q).name b;
    }

pub found-named : (e : Sights) (ns : List (List ℕ)) (ts : List e.Table) (name : List ℕ) (place : Option ℕ) → length ns ≡ length ts → IsPlaceAmong ns name place → IsFound (named e ns ts) name place
found-named e ns ts name None k f = λ j x q b. f j x.name (named-at e ns ts j x q).name b
found-named e ns ts name (Some place) k f = place-named e ns ts name place k f

-- ---- one table changes

-- there is a name where there is a table
pub record HasName (ns : List (List ℕ)) (i : ℕ) : Type 0 where
  pub name : List ℕ
  pub there : slice_get ns i ≡ Some name

pub name-there : {A : Type 0} (ns : List (List ℕ)) (ts : List A) (i : ℕ) (t : A) → length ns ≡ length ts → slice_get ts i ≡ Some t → HasName ns i
name-there [] [] i t k p = absurd (cc)
name-there [] (u ∷ ts) i t k p = absurd (omega (arith, k))
name-there (m ∷ ns) [] i t k p = absurd (cc)
name-there (m ∷ ns) (u ∷ ts) zero t k p = record { name = m; there = refl }
name-there (m ∷ ns) (u ∷ ts) (suc i) t k p = let r = name-there ns ts i t (omega (arith, k)) p in record { name = r.name; there = r.there }

set-length : {A : Type 0} (xs : List A) (i : ℕ) (x : A) → length (slice_set xs i x) ≡ length xs
set-length [] i x = refl
set-length (y ∷ xs) zero x = refl
set-length (y ∷ xs) (suc i) x = ap suc (set-length xs i x)

each-set : {A : Type 0} (P : A → Type 0) (xs : List A) (i : ℕ) (x : A) → Each P xs → P x → Each P (slice_set xs i x)
each-set P [] i x h p = tt
each-set P (y ∷ xs) zero x h p = (p, h.1)
each-set P (y ∷ xs) (suc i) x h p = (h.0, each-set P xs i x h.1 p)

-- the player changes so
pub changes-named : (e : Sights) (replicas : ℕ) (up : List Bool) (ns : List (List ℕ)) (ts us : List e.Table) (place : ℕ) (Change : Sight e.workers → Sight e.workers → Type 0) → length ns ≡ length ts → ChangesAt e ts place Change us
    → ChangesIn (record { replicas = replicas; up = up; tables = named e ns ts }) place Change (record { replicas = replicas; up = up; tables = named e ns us })
changes-named e replicas up ns ts us place Change k h =
    let n = name-there ns ts place h.table k h.there in
    record {
      table = record { name = n.name; table = h.table };
      there = named-get e ns ts place n.name h.table n.there h.there;
      after = h.after;
      changes = h.changes;
      rest = ap (λ (x : List e.Table). record { replicas = replicas; up = up; tables = named e ns x }) h.rest
          ∙ ap (λ (x : List (NamedTable e)). record { replicas = replicas; up = up; tables = x }) (named-set e ns ts place n.name h.after n.there);
    }

-- and is sound still
pub sound-changed : (e : Sights) (replicas : ℕ) (up : List Bool) (ns : List (List ℕ)) (ts us : List e.Table) (place : ℕ) (Change : Sight e.workers → Sight e.workers → Type 0) → length ns ≡ length ts → ChangesAt e ts place Change us
    → IsSoundPlayer {e = e} (record { replicas = replicas; up = up; tables = named e ns ts }) → IsSoundPlayer {e = e} (record { replicas = replicas; up = up; tables = named e ns us })
sound-changed e replicas up ns ts us place Change k h s =
    let all = each-table e (IsAtAll e replicas up) ns ts k s.all in
    let old = each-get (IsAtAll e replicas up) ts place h.table h.there all in
    record {
      some = s.some;
      few = s.few;
      eight = s.eight;
      all = subst (λ (x : List e.Table). Each (λ t. IsAtAll e replicas up t.table) (named e ns x)) (sym h.rest)
          (each-named e (IsAtAll e replicas up) ns (slice_set ts place h.after) (each-set (IsAtAll e replicas up) ts place h.after all
          (record { all = h.keeps.count ∙ old.all; ups_are = h.goes_on.ups ∙ old.ups_are; free = h.goes_on.free })));
    }

pub length-changed : (e : Sights) (ns : List (List ℕ)) (ts us : List e.Table) (place : ℕ) (Change : Sight e.workers → Sight e.workers → Type 0) → length ns ≡ length ts → ChangesAt e ts place Change us → length ns ≡ length us
length-changed e ns ts us place Change k h = k ∙ sym (ap length h.rest ∙ set-length ts place h.after)

-- ---- each table changes

pub turns-named : (e : Sights) (replicas : ℕ) (up : List Bool) (ns : List (List ℕ)) (ts us : List e.Table) (r : ℕ) (b : Bool) → length ns ≡ length ts → TurnsEach e r b ts us
    → TurnsAll (record { replicas = replicas; up = up; tables = named e ns ts }) r b (record { replicas = replicas; up = slice_set up (r - 1) b; tables = named e ns us })
turns-named e replicas up ns ts us r b k h =
    let k2 : length ns ≡ length us = k ∙ sym h.all in
    record {
      names = named-names e ns us k2 ∙ sym (named-names e ns ts k);
      each = subst (λ (x : List e.Table). TurnsEach e r b x (map (λ t. t.table) (named e ns us))) (sym (named-tables e ns ts k)) (subst (λ (x : List e.Table). TurnsEach e r b ts x) (sym (named-tables e ns us k2)) h);
      rest = refl;
    }

-- what follows for each
pub each-more-of : {A : Type 0} (P Q : A → Type 0) (xs : List A) → ((x : A) → P x → Q x) → Each P xs → Each Q xs
each-more-of P Q [] f h = tt
each-more-of P Q (x ∷ xs) f h = (f x h.0, each-more-of P Q xs f h.1)

-- ---- how many tables there are

pub count-named : (e : Sights) (ns : List (List ℕ)) (ts : List e.Table) → length ns ≡ length ts → length (named e ns ts) ≡ length ns
count-named e ns ts k = named-length e ns ts k ∙ sym k

few-tables : (n : ℕ) → n < 4 → None ≡ too_many_tables n
few-tables n l = let q : nat_le 4 n ≡ false = grind (arith, nat_tests) in sym (ap (λ (b : Bool). cond b (Some (LimitReached limits.Tables n)) None) q)

many-tables : (n : ℕ) → 4 ≤ n → Some (LimitReached limits.Tables n) ≡ too_many_tables n
many-tables n l = let q : nat_le 4 n ≡ true = grind (arith, nat_tests) in sym (ap (λ (b : Bool). cond b (Some (LimitReached limits.Tables n)) None) q)

pub few-named : (e : Sights) (ns : List (List ℕ)) (ts : List e.Table) (n : ℕ) → length ns ≡ length ts → n ≡ length ns → n < 4 → None ≡ too_many_tables (length (named e ns ts))
few-named e ns ts n k q l = few-tables n l ∙ ap too_many_tables (q ∙ sym (count-named e ns ts k))

pub many-named : (e : Sights) (ns : List (List ℕ)) (ts : List e.Table) (n : ℕ) → length ns ≡ length ts → n ≡ length ns → 4 ≤ n → Some (LimitReached limits.Tables n) ≡ too_many_tables (length (named e ns ts))
many-named e ns ts n k q l = many-tables n l ∙ ap too_many_tables (q ∙ sym (count-named e ns ts k))

pub more-same : {A B : Type 0} (xs : List A) (ys : List B) (x : A) (y : B) → length xs ≡ length ys → length (xs ++ x ∷ []) ≡ length (ys ++ y ∷ [])
more-same [] [] x y k = refl
more-same [] (b ∷ ys) x y k = absurd (omega (arith, k))
more-same (a ∷ xs) [] x y k = absurd (omega (arith, k))
more-same (a ∷ xs) (b ∷ ys) x y k = ap suc (more-same xs ys x y (omega (arith, k)))

-- what was done in the table at a place
pub done-at : {E : Type 0} (e : Sights) (r : Result Line E) (ts : List e.Table) (place : ℕ) (t v : e.Table) (Change : Line → Sight e.workers → Sight e.workers → Type 0) → slice_get ts place ≡ Some t → IfOk r (λ line. Change line (e.seen t) (e.seen v)) → OnOk r (GoesOn (e.seen t) (e.seen v))
    → KeepsShape (e.seen t) (e.seen v) → IfOk r (λ line. ChangesAt e ts place (Change line) (slice_set ts place v))
done-at e (Ok line) ts place t v Change p f g k = record { table = t; there = p; after = v; changes = f; goes_on = g; keeps = k; rest = refl }
done-at e (Err x) ts place t v Change p f g k = tt
