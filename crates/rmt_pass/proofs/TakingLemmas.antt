-- What is known of the tables once a client has taken over what lies in one of them.
use Rattle.std.proofs.Common.{◌≡◌, ℕ, ◌<◌, ◌≤◌, zero, suc, List, [], ◌∷◌, length, set, get_or, refl, sym, ap, subst, arith, ◌∙◌}
use Rattle.rmt_model.specs.Lawful.{IsPrefix}
use Rattle.rmt_table_model.specs.Held.{Held}
use Rattle.rmt_table.specs.TableTrees.{IsCopyOf}
use Rattle.rmt_table.proofs.PrefixLemmas.{prefix-length}
use Rattle.rmt_known.specs.KnownTables.{Known, copy_in, new_known, seen_of, with_copy}
use Rattle.rmt_shared.specs.SharedTables.{NamedTable, named, IsCopyOfNamed, name_at}
use Rattle.rmt_shared.specs.ClientCalls.{HasTable}
use Rattle.rmt_pass.specs.Passes.{AreKnownOf, TakesOver, TakesSome, no_schema, known_in}
use Rattle.rmt_pass.proofs.KnownLemmas.{known-at, known-set}

-- an element that is there is the same whatever stands for one that isn't
pub get-same : {A : Type 0} (xs : List A) (i : ℕ) (d e : A) → i < length xs → get_or xs i d ≡ get_or xs i e
get-same [] i d e h = absurd (omega (arith, h))
get-same (x ∷ xs) zero d e h = refl
get-same (x ∷ xs) (suc i) d e h = get-same xs i d e (omega (arith, h))

-- so there is one table at a place
pub one-there : {A : Type 0} (xs : List A) (i : ℕ) (x y : A) → i < length xs → x ≡ get_or xs i x → y ≡ get_or xs i y → x ≡ y
one-there xs i x y h a b = a ∙ (get-same xs i x y h ∙ sym b)

module _ (replicas : ℕ) (names : List NamedTable) (known : List Known) (k : ℕ) (old : Known) (tree : Held) (a : AreKnownOf replicas names known) (here : k < length known) (at : old ≡ get_or known k old) (is : named tree ≡ name_at names k) where
  pub old-known : old ≡ known_in known k
  old-known = at ∙ get-same known k old (new_known no_schema 0) here

  old-copy : IsCopyOfNamed (named tree) (copy_in old)
  old-copy = subst (λ (n : NamedTable). IsCopyOfNamed n (copy_in old)) (sym is) (subst (λ (x : Known). IsCopyOfNamed (name_at names k) (copy_in x)) (sym at) (known-at replicas names known k old a here).copy)

  -- the copy is of the table that was found
  pub copy-there : IsPrefix (known_in known k).log tree.log → IsCopyOf tree (copy_in old)
  copy-there f = record {
    schema = old-copy.schema;
    prefix = subst (λ (x : Known). IsPrefix x.log tree.log) (sym old-known) f;
    cells = old-copy.row;
  }

  -- and what is known is of the named tables still
  pub known-now : (new : Known) → length tree.log ≤ 65536 → IsCopyOf tree (copy_in new) → length new.fetching ≡ length old.fetching → length new.marks ≡ length old.marks → AreKnownOf replicas names (set known k new)
  known-now new few c f m =
      let was = known-at replicas names known k old a here in
      let within = prefix-length new.log tree.log c.prefix in
      known-set replicas names known k new a (record {
        copy = subst (λ (n : NamedTable). IsCopyOfNamed n (copy_in new)) is (record { schema = c.schema; row = c.cells });
        few = omega (arith, within, few);
        fetching = f ∙ (ap (λ (x : Known). length x.fetching) at ∙ was.fetching);
        marks = m ∙ (ap (λ (x : Known). length x.marks) at ∙ was.marks);
      })

  pub takes-over : (tables : List Held) (new : Known) → tree ≡ get_or tables k tree → new ≡ seen_of tree new.cells old → HasTable tables k (λ h. TakesOver known k h (set known k new))
  takes-over tables new there e = record {
    table = tree;
    is = there;
    fact = record { cells = new.cells; change = ap (λ (x : Known). set known k x) (e ∙ ap (λ (x : Known). seen_of tree new.cells x) old-known) };
  }

  pub takes-some : (tables : List Held) (new : Known) → tree ≡ get_or tables k tree → new ≡ with_copy new.log new.cells old → IsPrefix old.log new.log → IsCopyOf tree (copy_in new) → HasTable tables k (λ h. TakesSome known k h (set known k new))
  takes-some tables new there e longer c = record {
    table = tree;
    is = there;
    fact = record {
      log = new.log;
      cells = new.cells;
      longer = subst (λ (x : Known). IsPrefix x.log new.log) old-known longer;
      within = c.prefix;
      change = ap (λ (x : Known). set known k x) (e ∙ ap (λ (x : Known). with_copy new.log new.cells x) old-known);
    };
  }
