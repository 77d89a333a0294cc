-- Tables at rest, apart from their replicas.
use Rattle.std.proofs.Common.{◌≡◌, ℕ, zero, suc, ◌+◌, ◌<◌, ◌≤◌, Bool, List, [], ◌∷◌, ◌++◌, length, map, refl, sym, ap, ap₂, subst, arith, append_assoc, ◌∙◌}
use Rattle.std.proofs.lemmas.List.{length_push, length-append, map-append}
use Rattle.rmt_model.specs.Words.{Each}
use Rattle.rmt_entries.specs.declared.entry.Entry.{Entry}
use Rattle.rmt_events.specs.Views.{Block}
use Rattle.rmt_table_model.specs.Held.{Held}
use Rattle.rmt_replica.specs.Replicas.{ReplicaView}
use Rattle.rmt_state.specs.States.{AreNumbered, Belongs, StateView}
use Rattle.rmt_known.specs.KnownTables.{Known}
use Rattle.rmt_shared.specs.SharedTables.{HaveBlocks, NamedTable, logs_of, name_at, named}
use Rattle.rmt_shared.specs.SharedReplicas.{IsSharedReplica}
use Rattle.rmt_shared.proofs.NamedLemmas.{map-length}
use Rattle.rmt_pass.specs.Passes.{AreKnownOf, logs_in}
use Rattle.rmt_workers.specs.Closing.{AreAtRest, IsAtRestReplica}
use Rattle.rmt_workers.specs.Settled.{EachFrom, MayShare, MayShareAt}

-- ---- lists with places

-- what is so of each place after the first
pub shifted : {A : Type 0} (P : ℕ → A → Type 0) (k : ℕ) (xs : List A) → EachFrom (λ j x. P (suc j) x) k xs → EachFrom P (suc k) xs
shifted P k [] e = tt
shifted P k (x ∷ xs) e = (e.0, shifted P (suc k) xs e.1)

pub unshifted : {A : Type 0} (P : ℕ → A → Type 0) (k : ℕ) (xs : List A) → EachFrom P (suc k) xs → EachFrom (λ j x. P (suc j) x) k xs
unshifted P k [] e = tt
unshifted P k (x ∷ xs) e = (e.0, unshifted P (suc k) xs e.1)

-- one more at the end
pub each-more : {A : Type 0} (P : ℕ → A → Type 0) (k : ℕ) (xs : List A) (x : A) → EachFrom P k xs → P (k + length xs) x → EachFrom P k (xs ++ x ∷ [])
each-more P k [] x e p = (subst (λ (j : ℕ). P j x) (let q : k + 0 ≡ k = omega arith in q) p, tt)
each-more P k (y ∷ ys) x e p = (e.0, each-more P (suc k) ys x e.1 (subst (λ (j : ℕ). P j x) (let q : k + suc (length ys) ≡ suc k + length ys = omega arith in q) p))

pub each-as : {A : Type 0} (P Q : ℕ → A → Type 0) (k : ℕ) (xs : List A) → ((j : ℕ) (x : A) → P j x → Q j x) → EachFrom P k xs → EachFrom Q k xs
each-as P Q k [] f e = tt
each-as P Q k (x ∷ xs) f e = (f k x e.0, each-as P Q (suc k) xs f e.1)

-- one more is moved from the beginning of the rest to the end of what was made
pub moved-more : {A B : Type 0} (f : A → B) (made now all : List B) (left rest : List A) (x : A) (y : B) → made ++ map f left ≡ all → left ≡ x ∷ rest → now ≡ made ++ y ∷ [] → y ≡ f x → now ++ map f rest ≡ all
moved-more {A} {B} f made now all left rest x y e step push is =
    ap (λ (ys : List B). ys ++ map f rest) push
    ∙ (append_assoc made (y ∷ []) (map f rest)
    ∙ (ap (λ (z : B). made ++ z ∷ map f rest) is ∙ (sym (ap (λ (xs : List A). made ++ map f xs) step) ∙ e)))

pub made-more : {A B : Type 0} (f : B → A) (made now : List B) (all left rest : List A) (x : A) (y : B) → map f made ++ left ≡ all → left ≡ x ∷ rest → now ≡ made ++ y ∷ [] → f y ≡ x → map f now ++ rest ≡ all
made-more {A} {B} f made now all left rest x y e step push is =
    ap (λ (ys : List B). map f ys ++ rest) push
    ∙ (ap (λ (ys : List A). ys ++ rest) (map-append f made (y ∷ []))
    ∙ (append_assoc (map f made) (f y ∷ []) rest
    ∙ (ap (λ (z : A). map f made ++ z ∷ rest) is ∙ (sym (ap (λ (xs : List A). map f made ++ xs) step) ∙ e))))

-- fewer are made than there are where some are left
pub made-before : {A B : Type 0} (f : B → A) (made : List B) (all left rest : List A) (x : A) → map f made ++ left ≡ all → left ≡ x ∷ rest → length made < length all
made-before {A} {B} f made all left rest x e step =
    let n : length (map f made ++ left) ≡ length all = ap (λ (ys : List A). length ys) e in
    let a : length (map f made ++ left) ≡ length (map f made) + length left = length-append (map f made) left in
    let b : length (map f made) ≡ length made = map-length f made in
    let d : length left ≡ suc (length rest) = ap (λ (ys : List A). length ys) step in
    omega (arith, n, a, b, d)

-- so it is of what is left
pub left-more : {A B : Type 0} (P : ℕ → A → Type 0) (made now : List B) (left rest : List A) (x : A) (y : B) → EachFrom P (length made) left → left ≡ x ∷ rest → now ≡ made ++ y ∷ [] → EachFrom P (length now) rest
left-more {A} {B} P made now left rest x y e step push =
    let n : suc (length made) ≡ length (made ++ y ∷ []) = let l = length_push made y in omega (arith, l) in
    subst (λ (ys : List B). EachFrom P (length ys) rest) (sym push)
    (subst (λ (k : ℕ). EachFrom P k rest) n (subst (λ (xs : List A). EachFrom P (length made) xs) step e).1)

pub left-first : {A : Type 0} (P : ℕ → A → Type 0) (k : ℕ) (left rest : List A) (x : A) → EachFrom P k left → left ≡ x ∷ rest → P k x
left-first {A} P k left rest x e step = (subst (λ (xs : List A). EachFrom P k xs) step e).0

-- ---- replicas

-- a replica of a table may go under a lock
may-share : (O : Block → Type 0) (up : List Bool) (known : Known) (tree : Held) (k count : ℕ) (rs : List ReplicaView) → 1 ≤ k → k + length rs ≤ count + 1 → AreNumbered tree k rs → Each (IsAtRestReplica O up known tree) rs → Each (MayShare (named tree) count O) rs
may-share O up known tree k count [] f l n e = tt
may-share O up known tree k count (r ∷ rs) f l n e =
    let b : Belongs tree k r = n.0 in
    let a : IsAtRestReplica O up known tree r = e.0 in
    let is = b.numbered in (
      record {
        number = record { first = omega (arith, is, f); last = omega (arith, is, l) };
        few = a.few;
        schema = b.copy.schema;
        row = a.row;
        blocks = a.blocks;
        fitting = a.fitting;
      },
      may-share O up known tree (k + 1) count rs (omega (arith, f)) (omega (arith, l)) n.1 e.1,
    )

pub all-may-share : (O : ℕ → Block → Type 0) (up : List Bool) (known : List Known) (states : List StateView) (count : ℕ) → length up ≡ count → AreAtRest O up known states → EachFrom (MayShareAt (map (λ (s : StateView). named s.tree) states) count O) 0 states
all-may-share O up [] [] count c a = tt
all-may-share O up (k ∷ known) (s ∷ states) count c a =
    let all = a.0.all in (
      may-share (O 0) up k s.tree 1 count s.replicas (omega arith) (omega (arith, all, c)) a.0.state.numbered a.0.replicas,
      shifted (MayShareAt (map (λ (x : StateView). named x.tree) (s ∷ states)) count O) 0 states (all-may-share (λ j. O (suc j)) up known states count c a.1),
    )
all-may-share O up [] (s ∷ states) count c a = absurd a
all-may-share O up (k ∷ known) [] count c a = absurd a

-- it is what lies under its lock
pub shares : (names : List NamedTable) (count : ℕ) (O : ℕ → Block → Type 0) (k : ℕ) (r : ReplicaView) → MayShare (name_at names k) count (O k) r → IsSharedReplica names count O (record { table = k; replica = r })
shares names count O k r m = record { number = m.number; few = m.few; schema = m.schema; row = m.row; blocks = m.blocks; fitting = m.fitting }

-- ---- tables

pub names-apart : (states : List StateView) → map named (map (λ (s : StateView). s.tree) states) ≡ map (λ (s : StateView). named s.tree) states
names-apart [] = refl
names-apart (s ∷ states) = ap (λ (ns : List NamedTable). named s.tree ∷ ns) (names-apart states)

pub length-apart : (states : List StateView) → length (map (λ (s : StateView). s.tree) states) ≡ length states
length-apart [] = refl
length-apart (s ∷ states) = ap suc (length-apart states)

pub sessions-apart : (O : ℕ → Block → Type 0) (up : List Bool) (known : List Known) (states : List StateView) (count : ℕ) → length up ≡ count → AreAtRest O up known states → Each (λ (h : Held). length h.sessions ≡ count) (map (λ (s : StateView). s.tree) states)
sessions-apart O up [] [] count c a = tt
sessions-apart O up (k ∷ known) (s ∷ states) count c a = (sym a.0.state.all ∙ (a.0.all ∙ c), sessions-apart (λ j. O (suc j)) up known states count c a.1)
sessions-apart O up [] (s ∷ states) count c a = absurd a
sessions-apart O up (k ∷ known) [] count c a = absurd a

pub blocks-apart : (O : ℕ → Block → Type 0) (up : List Bool) (known : List Known) (states : List StateView) → AreAtRest O up known states → HaveBlocks O (map (λ (s : StateView). s.tree) states)
blocks-apart O up [] [] a = tt
blocks-apart O up (k ∷ known) (s ∷ states) a = (a.0.blocks, blocks-apart (λ j. O (suc j)) up known states a.1)
blocks-apart O up [] (s ∷ states) a = absurd a
blocks-apart O up (k ∷ known) [] a = absurd a

-- what is known is of these tables
pub known-apart : (O : ℕ → Block → Type 0) (up : List Bool) (known : List Known) (states : List StateView) → AreAtRest O up known states → AreKnownOf (length up) (map (λ (s : StateView). named s.tree) states) known
known-apart O up [] [] a = tt
known-apart O up (k ∷ known) (s ∷ states) a = (a.0.of, known-apart (λ j. O (suc j)) up known states a.1)
known-apart O up [] (s ∷ states) a = absurd a
known-apart O up (k ∷ known) [] a = absurd a

-- the copies are whole
pub logs-apart : (O : ℕ → Block → Type 0) (up : List Bool) (known : List Known) (states : List StateView) → AreAtRest O up known states → logs_of (map (λ (s : StateView). s.tree) states) ≡ logs_in known
logs-apart O up [] [] a = refl
logs-apart O up (k ∷ known) (s ∷ states) a = ap₂ (λ (l : List Entry) (ls : List (List Entry)). l ∷ ls) (sym a.0.sees.log) (logs-apart (λ j. O (suc j)) up known states a.1)
logs-apart O up [] (s ∷ states) a = absurd a
logs-apart O up (k ∷ known) [] a = absurd a
