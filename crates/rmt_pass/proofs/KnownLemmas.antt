-- What is known of each table, as lists.
use Rattle.std.proofs.Common.{◌≡◌, ℕ, zero, suc, ◌+◌, ◌<◌, ◌≤◌, Bool, true, false, nat_le, List, [], ◌∷◌, length, map, set, get_or, refl, sym, ap, subst, arith, ◌∙◌}
use Rattle.std.specs.Prelude.{IsTrue, IfSome, OnErr, OnOk}
use Rattle.std.specs.declared.option.Option.{Option}
use Rattle.std.specs.declared.option.Option.TheVariants.{Some, None}
use Rattle.std.specs.declared.result.Result.{Result}
use Rattle.std.specs.declared.result.Result.TheVariants.{Ok, Err}
use Rattle.std.proofs.lemmas.Bool.Decides.{nat_tests}
use Rattle.rmt_entries.specs.declared.entry.Entry.{Entry}
use Rattle.rmt_history.specs.Copies.{History}
use Rattle.rmt_table_model.specs.Held.{Held}
use Rattle.rmt_statement_model.specs.Books.{ArePrefixesOf, GainWork, all_clients}
use Rattle.rmt_model.specs.EntryLimits.{client_count}
use Rattle.rmt_known.specs.KnownTables.{Known, KeepsCopy, copy_in}
use Rattle.rmt_shared.specs.SharedTables.{NamedTable, named, logs_of, IsCopyOfNamed, name_at}
use Rattle.rmt_shared.proofs.NamedLemmas.{map-length, map-get, map-set, set-clients, log-at}
use Rattle.rmt_pass.specs.Passes.{IsShorter, IsKnownOf, AreKnownOf, logs_in}

pub known-length : (replicas : ℕ) (names : List NamedTable) (known : List Known) → AreKnownOf replicas names known → length names ≡ length known
known-length replicas [] [] a = refl
known-length replicas (n ∷ names) (k ∷ known) a = ap suc (known-length replicas names known a.1)
known-length replicas [] (k ∷ known) a = absurd a
known-length replicas (n ∷ names) [] a = absurd a

pub known-at : (replicas : ℕ) (names : List NamedTable) (known : List Known) (i : ℕ) (d : Known) → AreKnownOf replicas names known → i < length known → IsKnownOf replicas (name_at names i) (get_or known i d)
known-at replicas [] [] i d a h = absurd (omega (arith, h))
known-at replicas (n ∷ names) (k ∷ known) zero d a h = a.0
known-at replicas (n ∷ names) (k ∷ known) (suc i) d a h = known-at replicas names known i d a.1 (omega (arith, h))
known-at replicas [] (k ∷ known) i d a h = absurd a
known-at replicas (n ∷ names) [] i d a h = absurd a

pub known-set : (replicas : ℕ) (names : List NamedTable) (known : List Known) (i : ℕ) (k : Known) → AreKnownOf replicas names known → IsKnownOf replicas (name_at names i) k → AreKnownOf replicas names (set known i k)
known-set replicas [] [] i k a h = tt
known-set replicas (n ∷ names) (x ∷ known) zero k a h = (h, a.1)
known-set replicas (n ∷ names) (x ∷ known) (suc i) k a h = (a.0, known-set replicas names known i k a.1 h)
known-set replicas [] (x ∷ known) i k a h = absurd a
known-set replicas (n ∷ names) [] i k a h = absurd a

-- there is a table for each that is known
pub tables-for : (replicas : ℕ) (tables : List Held) (names : List NamedTable) (known : List Known) → map named tables ≡ names → AreKnownOf replicas names known → length known ≡ length tables
tables-for replicas tables names known e a =
    let m = map-length named tables in
    let n : length (map named tables) ≡ length names = ap (λ (ns : List NamedTable). length ns) e in
    let k = known-length replicas names known a in
    omega (arith, m, n, k)

pub log-in : (known : List Known) (i : ℕ) (d : Known) → i < length known → get_or (logs_in known) i [] ≡ (get_or known i d).log
log-in known i d h = map-get (λ (x : Known). x.log) known i d [] h

-- the entries of clients, once one of the logs is another one
pub clients-with : (known : List Known) (i : ℕ) (d k : Known) → i < length known → all_clients (logs_in (set known i k)) + client_count (get_or known i d).log ≡ all_clients (logs_in known) + client_count k.log
clients-with known i d k h =
    let m = map-length (λ (x : Known). x.log) known in
    let hl : i < length (logs_in known) = omega (arith, m, h) in
    let a = set-clients (logs_in known) i k.log [] hl in
    let b : client_count (get_or (logs_in known) i []) ≡ client_count (get_or known i d).log = ap client_count (log-in known i d h) in
    let c : all_clients (logs_in (set known i k)) ≡ all_clients (set (logs_in known) i k.log) = ap all_clients (map-set (λ (x : Known). x.log) known i k) in
    omega (arith, a, b, c)

-- the copy of a named table is of the table that is named
pub copy-named : (replicas : ℕ) (names : List NamedTable) (known : List Known) (i : ℕ) (k : Known) (copy : History) (h : Held) → AreKnownOf replicas names known → i < length known → k ≡ get_or known i k → copy ≡ copy_in k → named h ≡ name_at names i → IsCopyOfNamed (named h) copy
copy-named replicas names known i k copy h a here is c n =
    subst (λ (x : NamedTable). IsCopyOfNamed x copy) (sym n)
    (subst (λ (x : History). IsCopyOfNamed (name_at names i) x) (sym c)
    (subst (λ (x : Known). IsCopyOfNamed (name_at names i) (copy_in x)) (sym is) (known-at replicas names known i k a here).copy))

-- the log of the table at a place is shorter than the copy
pub shorter-there : (known : List Known) (tables : List Held) (i : ℕ) (k : Known) (h : Held) → i < length known → i < length tables → k ≡ get_or known i k → h ≡ get_or tables i h → (length k.log ≤ length h.log → ⊥) → IsShorter (logs_in known) (logs_of tables)
shorter-there known tables i k h here there is at longer =
    let a : length (get_or (logs_in known) i []) ≡ length k.log = ap (λ (l : List Entry). length l) (log-in known i k here ∙ ap (λ (x : Known). x.log) (sym is)) in
    let b : length (get_or (logs_of tables) i []) ≡ length h.log = ap (λ (l : List Entry). length l) (log-at tables i h there at) in
    record { table = i; shorter = less (nat_le (length k.log) (length h.log)) refl a b }
  where
    less : (t : Bool) → nat_le (length k.log) (length h.log) ≡ t → length (get_or (logs_in known) i []) ≡ length k.log → length (get_or (logs_of tables) i []) ≡ length h.log → length (get_or (logs_of tables) i []) < length (get_or (logs_in known) i [])
    less true e a b = absurd (longer (grind (arith, nat_tests)))
    less false e a b = let q : length h.log < length k.log = grind (arith, nat_tests) in omega (arith, q, a, b)

-- a test doesn't hold and fail
pub not-both : (b : Bool) → IsTrue b → b ≡ false → ⊥
not-both b holds e = absurd (cc)

-- there is a log for each copy
pub prefixes-length : (known : List Known) (tables : List Held) → ArePrefixesOf (logs_in known) (logs_of tables) → length known ≡ length tables
prefixes-length [] [] a = refl
prefixes-length (k ∷ known) (h ∷ tables) a = ap suc (prefixes-length known tables a.1)
prefixes-length [] (h ∷ tables) a = absurd a
prefixes-length (k ∷ known) [] a = absurd a

pub gained-length : (known : List Known) (tables : List Held) → GainWork (logs_in known) (logs_of tables) → length known ≡ length tables
gained-length [] [] a = refl
gained-length (k ∷ known) (h ∷ tables) a = ap suc (gained-length known tables a.1)
gained-length [] (h ∷ tables) a = absurd a
gained-length (k ∷ known) [] a = absurd a

-- what holds holds at an error
pub on-err : {T E : Type 0} (r : Result T E) (P : Type 0) → P → OnErr r P
on-err (Ok x) P p = tt
on-err (Err e) P p = p

-- what was known at a place is, whatever is known there now
pub known-there-still : (replicas : ℕ) (names : List NamedTable) (old new : List Known) (k : ℕ) → AreKnownOf replicas names old → AreKnownOf replicas names new → k < length old → k < length new
known-there-still replicas names old new k a b here =
    let m = known-length replicas names old a in
    let n = known-length replicas names new b in
    omega (arith, m, n, here)

-- a place more is known of a table
pub known-learned : (replicas : ℕ) (names : List NamedTable) (known : List Known) (k : ℕ) (old new : Known) → AreKnownOf replicas names known → k < length known → old ≡ get_or known k old → KeepsCopy old new → AreKnownOf replicas names (set known k new)
known-learned replicas names known k old new a here at keep =
    let was = known-at replicas names known k old a here in
    known-set replicas names known k new a (record {
      copy = subst (λ (x : History). IsCopyOfNamed (name_at names k) x) (sym (keep.copy ∙ ap copy_in at)) was.copy;
      few = subst (λ (x : History). length x.log ≤ 65536) (sym (keep.copy ∙ ap copy_in at)) was.few;
      fetching = keep.fetching ∙ (ap (λ (x : Known). length x.fetching) at ∙ was.fetching);
      marks = keep.marks ∙ (ap (λ (x : Known). length x.marks) at ∙ was.marks);
    })

-- what follows from what is there follows
pub if-some : {A : Type 0} (o : Option A) (P Q : A → Type 0) → ((x : A) → P x → Q x) → IfSome o P → IfSome o Q
if-some None P Q f h = tt
if-some (Some x) P Q f h = f x h

-- or where all went well
pub on-ok : {T E : Type 0} (r : Result T E) (P : Type 0) → P → OnOk r P
on-ok (Ok x) P p = p
on-ok (Err e) P p = tt

-- what two clauses on success say together
pub on-ok-both : {T E : Type 0} (r : Result T E) (A B C : Type 0) → (A → B → C) → OnOk r A → OnOk r B → OnOk r C
on-ok-both (Ok x) A B C f a b = f a b
on-ok-both (Err e) A B C f a b = tt
