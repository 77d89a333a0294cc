-- Tables that are named, copies of their logs, and lists of both.
use Rattle.std.proofs.Common.{◌≡◌, ℕ, zero, suc, ◌+◌, ◌<◌, List, [], ◌∷◌, ◌++◌, length, map, take, set, get_or, refl, sym, ap, subst, arith, ◌∙◌}
use Rattle.rmt_entries.specs.declared.entry.Entry.{Entry}
use Rattle.rmt_model.specs.Words.{Each}
use Rattle.rmt_model.specs.Lawful.{IsPrefix}
use Rattle.rmt_model.specs.EntryLimits.{client_count}
use Rattle.rmt_history.specs.Copies.{History}
use Rattle.rmt_table_model.specs.Held.{Held}
use Rattle.rmt_statement_model.specs.BackgroundWork.{IsOfWorker}
use Rattle.rmt_statement_model.specs.Books.{ArePrefixesOf, all_clients, GainsWork, GainWork}
use Rattle.rmt_statement_model.proofs.WorkerEntries.{clients-stay, front-clients}
use Rattle.rmt_shared.specs.SharedTables.{NamedTable, named, logs_of, IsCopyOfNamed, name_at}

-- ---- lists

pub map-length : {A B : Type 0} (f : A → B) (xs : List A) → length (map f xs) ≡ length xs
map-length f [] = refl
map-length f (x ∷ xs) = ap suc (map-length f xs)

pub map-get : {A B : Type 0} (f : A → B) (xs : List A) (i : ℕ) (d : A) (e : B) → i < length xs → get_or (map f xs) i e ≡ f (get_or xs i d)
map-get f [] i d e h = absurd (omega (arith, h))
map-get f (x ∷ xs) zero d e h = refl
map-get f (x ∷ xs) (suc i) d e h = map-get f xs i d e (omega (arith, h))

pub map-set : {A B : Type 0} (f : A → B) (xs : List A) (i : ℕ) (x : A) → map f (set xs i x) ≡ set (map f xs) i (f x)
map-set f [] i x = refl
map-set f (y ∷ ys) zero x = refl
map-set f (y ∷ ys) (suc i) x = ap (λ zs. f y ∷ zs) (map-set f ys i x)

-- an element in its own place
pub set-own : {A : Type 0} (xs : List A) (i : ℕ) (x y : A) → i < length xs → x ≡ get_or xs i x → y ≡ x → set xs i y ≡ xs
set-own [] i x y h at e = absurd (omega (arith, h))
set-own (z ∷ zs) zero x y h at e = ap (λ w. w ∷ zs) (e ∙ at)
set-own (z ∷ zs) (suc i) x y h at e = ap (λ ws. z ∷ ws) (set-own zs i x y (omega (arith, h)) at e)

-- an element is replaced by one of which this is the same
pub set-same : {A B : Type 0} (f : A → B) (xs : List A) (i : ℕ) (old new : A) → i < length xs → old ≡ get_or xs i old → f new ≡ f old → set (map f xs) i (f new) ≡ map f xs
set-same f [] i old new h at e = absurd (omega (arith, h))
set-same f (x ∷ xs) zero old new h at e = ap (λ y. y ∷ map f xs) (e ∙ ap f at)
set-same f (x ∷ xs) (suc i) old new h at e = ap (λ ys. f x ∷ ys) (set-same f xs i old new (omega (arith, h)) at e)

-- an element is replaced by one of which this holds where it held of the element
pub each-set : {A : Type 0} (P : A → Type 0) (xs : List A) (i : ℕ) (old new : A) → i < length xs → old ≡ get_or xs i old → (P old → P new) → Each P xs → Each P (set xs i new)
each-set P [] i old new h at f e = absurd (omega (arith, h))
each-set P (x ∷ xs) zero old new h at f e = (f (subst P (sym at) e.0), e.1)
each-set P (x ∷ xs) (suc i) old new h at f e = (e.0, each-set P xs i old new (omega (arith, h)) at f e.1)

-- the replicas of the table at a place
pub sessions-at : (replicas : ℕ) (tables : List Held) (k : ℕ) (h : Held) → Each (λ (x : Held). length x.sessions ≡ replicas) tables → k < length tables → h ≡ get_or tables k h → length h.sessions ≡ replicas
sessions-at replicas [] k h e l at = absurd (omega (arith, l))
sessions-at replicas (x ∷ xs) zero h e l at = ap (λ (y : Held). length y.sessions) at ∙ e.0
sessions-at replicas (x ∷ xs) (suc k) h e l at = sessions-at replicas xs k h e.1 (omega (arith, l)) at

-- the table at a place is named there
pub name-of : (tables : List Held) (names : List NamedTable) (i : ℕ) (d : Held) → map named tables ≡ names → i < length tables → named (get_or tables i d) ≡ name_at names i
name-of tables names i d e h = sym (map-get named tables i d _ h) ∙ ap (λ (ns : List NamedTable). name_at ns i) e

-- ---- prefixes

-- a prefix at each place up to one more
prefixes-next : (copies logs : List (List Entry)) (i : ℕ) (c l : List Entry) → ArePrefixesOf (take i copies) (take i logs) → i < length copies → i < length logs → get_or copies i c ≡ c → get_or logs i l ≡ l → IsPrefix c l → ArePrefixesOf (take (suc i) copies) (take (suc i) logs)
prefixes-next [] logs i c l a h k p q f = absurd (omega (arith, h))
prefixes-next (x ∷ copies) [] i c l a h k p q f = absurd (omega (arith, k))
prefixes-next (x ∷ copies) (y ∷ logs) zero c l a h k p q f = (subst (λ (z : List Entry). IsPrefix z y) (sym p) (subst (λ (z : List Entry). IsPrefix c z) (sym q) f), tt)
prefixes-next (x ∷ copies) (y ∷ logs) (suc i) c l a h k p q f = (a.0, prefixes-next copies logs i c l a.1 (omega (arith, h)) (omega (arith, k)) p q f)

pub prefixes-more : (copies logs : List (List Entry)) (i : ℕ) (c l : List Entry) → ArePrefixesOf (take i copies) (take i logs) → i < length copies → i < length logs → get_or copies i c ≡ c → get_or logs i l ≡ l → IsPrefix c l → ArePrefixesOf (take (i + 1) copies) (take (i + 1) logs)
prefixes-more copies logs i c l a h k p q f = let e : suc i ≡ i + 1 = omega arith in subst (λ (n : ℕ). ArePrefixesOf (take n copies) (take n logs)) e (prefixes-next copies logs i c l a h k p q f)

-- ---- counts

pub clients-to : (logs : List (List Entry)) (i : ℕ) (d : List Entry) → i < length logs → all_clients (take (i + 1) logs) ≡ all_clients (take i logs) + client_count (get_or logs i d)
clients-to logs i d h = let e : suc i ≡ i + 1 = omega arith in subst (λ (n : ℕ). all_clients (take n logs) ≡ all_clients (take i logs) + client_count (get_or logs i d)) e (go logs i h)
  where
    go : (ls : List (List Entry)) (i : ℕ) → i < length ls → all_clients (take (suc i) ls) ≡ all_clients (take i ls) + client_count (get_or ls i d)
    go [] i h = absurd (omega (arith, h))
    go (l ∷ ls) zero h = omega arith
    go (l ∷ ls) (suc i) h = let r = go ls i (omega (arith, h)) in omega (arith, r)

-- one log in place of another
pub set-clients : (logs : List (List Entry)) (i : ℕ) (l d : List Entry) → i < length logs → all_clients (set logs i l) + client_count (get_or logs i d) ≡ all_clients logs + client_count l
set-clients [] i l d h = absurd (omega (arith, h))
set-clients (x ∷ xs) zero l d h = omega arith
set-clients (x ∷ xs) (suc i) l d h = omega (arith, set-clients xs i l d (omega (arith, h)))

-- a log between a copy and what it goes on to by background work has as many client entries
pub between : (old new whole gained : List Entry) → whole ≡ gained ++ old → Each IsOfWorker gained → IsPrefix old new → IsPrefix new whole → client_count new ≡ client_count old
between old new whole gained e w f g =
    let a = front-clients old new f in
    let b = front-clients new whole g in
    let c : client_count whole ≡ client_count old = ap client_count e ∙ clients-stay gained old w in
    omega (arith, a, b, c)

-- what one of the logs has gained
pub gained-at : (copies logs : List (List Entry)) (i : ℕ) (c l : List Entry) → GainWork copies logs → i < length copies → GainsWork (get_or copies i c) (get_or logs i l)
gained-at [] [] i c l g h = absurd (omega (arith, h))
gained-at (x ∷ copies) (y ∷ logs) zero c l g h = g.0
gained-at (x ∷ copies) (y ∷ logs) (suc i) c l g h = gained-at copies logs i c l g.1 (omega (arith, h))
gained-at [] (y ∷ logs) i c l g h = absurd g
gained-at (x ∷ copies) [] i c l g h = absurd g

-- the log of the table at a place
pub log-at : (tables : List Held) (k : ℕ) (old : Held) → k < length tables → old ≡ get_or tables k old → get_or (logs_of tables) k [] ≡ old.log
log-at tables k old h at = map-get (λ (x : Held). x.log) tables k old [] h ∙ ap (λ (x : Held). x.log) (sym at)
