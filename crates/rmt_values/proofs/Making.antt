-- What is refused for no reason makes a schema.
use Rattle.std.proofs.Common.{◌≡◌, ℕ, suc, ◌+◌, ◌<◌, ◌≤◌, Bool, true, false, cond, List, [], ◌∷◌, length, refl, sym, ◌∙◌, arith}
use Rattle.std.specs.Prelude.{nat_le, ◌||◌, ◌&&◌, codes}
use Rattle.std.specs.Str.{bytes_eq}
use Rattle.std.specs.Option.{option_or, option_map, unwrap_or}
use Rattle.std.specs.Cmp.Lexicographic.{same_text, other_text}
use Rattle.std.proofs.lemmas.Bool.{and_parts, leb-true}
use Rattle.std.specs.declared.option.Option.{Option}
use Rattle.std.specs.declared.option.Option.TheVariants.{Some, None}
use Rattle.rmt_values.specs.declared.column.Column.{Column}
use Rattle.rmt_values.specs.declared.schema_error.SchemaError.TheVariants.{UnknownColumn, DoubleColumn, WrongType}
use Rattle.rmt_values.specs.declared.kind.Kind.{Kind}
use Rattle.rmt_values.specs.declared.kind.Kind.TheVariants as kinds
use Rattle.rmt_values.specs.Rows.{AllBelow, place_from, kind_at, kind_there, kind_named}
use Rattle.rmt_values.specs.Partitions.{Divides, IsRule}
use Rattle.rmt_values.specs.Schemas.{names_of, has_name, first_unknown, first_double, unknown_in_rule, is_uint64, wrong_rule, wrong_setting, no_columns, too_many, schema_refusal, place_of, places_of, rule_of, shape_of, HasNot, AreDistinct, IsSchema}

-- neither of two is there
neither : {X : Type 0} (a b : Option X) → option_or a b ≡ None → (a ≡ None) × (b ≡ None)
neither None b h = (refl, h)
neither (Some x) b h = absurd (cc)

-- what is nothing once mapped was nothing
unmapped : {X Y : Type 0} (f : X → Y) (a : Option X) → option_map f a ≡ None → a ≡ None
unmapped f None h = refl
unmapped f (Some x) h = absurd (cc)

-- a test that tells nothing to be wrong was passed
passed : {X : Type 0} (b : Bool) (x : X) → cond b None (Some x) ≡ None → b ≡ true
passed true x h = refl
passed false x h = absurd (cc)

-- a name that isn't among these is none of them
none-of : (ns : List (List ℕ)) (n : List ℕ) → has_name ns n ≡ false → HasNot n ns
none-of [] n h = tt
none-of (m ∷ ms) n h = go (bytes_eq m n) refl h (none-of ms n) where
  go : (b : Bool) → b ≡ bytes_eq m n → (b || has_name ms n) ≡ false → (has_name ms n ≡ false → HasNot n ms) → HasNot n (m ∷ ms)
  go true e h r = absurd (cc)
  go false e h r = (other_text m n e, r h)

-- where no name comes twice, they are distinct
distinct-names : (ns : List (List ℕ)) → first_double ns ≡ None → AreDistinct ns
distinct-names [] h = tt
distinct-names (n ∷ ns) h = go (has_name ns n) refl h (distinct-names ns) where
  go : (b : Bool) → has_name ns n ≡ b → cond b (Some n) (first_double ns) ≡ None → (first_double ns ≡ None → AreDistinct ns) → AreDistinct (n ∷ ns)
  go true e h r = absurd (cc)
  go false e h r = (none-of ns n e, r h)

-- where none is unknown, the first is known and so are the others
all-known : (known : List (List ℕ)) (n : List ℕ) (ns : List (List ℕ)) → first_unknown known (n ∷ ns) ≡ None → (has_name known n ≡ true) × (first_unknown known ns ≡ None)
all-known known n ns h = go (has_name known n) refl h where
  go : (b : Bool) → has_name known n ≡ b → cond b (first_unknown known ns) (Some n) ≡ None → (has_name known n ≡ true) × (first_unknown known ns ≡ None)
  go true e h = (e, h)
  go false e h = absurd (cc)

-- the place of a name, counted from i
abbrev place : ℕ → List Column → List ℕ → ℕ
place i cs n = unwrap_or (place_from i cs n) 0

-- a column's place is one of the columns'
place-within : (i : ℕ) (cs : List Column) (n : List ℕ) → has_name (names_of cs) n ≡ true → (i ≤ place i cs n) × (place i cs n < i + length cs)
place-within i [] n h = absurd (cc)
place-within i (c ∷ cs) n h = go (bytes_eq c.name n) h (place-within (i + 1) cs n) where
  go : (b : Bool) → (b || has_name (names_of cs) n) ≡ true → (has_name (names_of cs) n ≡ true → ((i + 1) ≤ place (i + 1) cs n) × (place (i + 1) cs n < (i + 1) + length cs))
      → (i ≤ unwrap_or (cond b (Some i) (place_from (i + 1) cs n)) 0) × (unwrap_or (cond b (Some i) (place_from (i + 1) cs n)) 0 < i + suc (length cs))
  go true h r = (omega arith, omega arith)
  go false h r = let w = r h in (omega (arith, w.0), omega (arith, w.1))

-- two names of columns at one place are one
same-place : (i : ℕ) (cs : List Column) (n m : List ℕ) → has_name (names_of cs) n ≡ true → has_name (names_of cs) m ≡ true → place i cs n ≡ place i cs m → n ≡ m
same-place i [] n m p q e = absurd (cc)
same-place i (c ∷ cs) n m p q e =
    go (bytes_eq c.name n) (bytes_eq c.name m) refl refl p q e (place-within (i + 1) cs n) (place-within (i + 1) cs m) (same-place (i + 1) cs n m)
  where
    go : (a b : Bool) → a ≡ bytes_eq c.name n → b ≡ bytes_eq c.name m
        → (a || has_name (names_of cs) n) ≡ true → (b || has_name (names_of cs) m) ≡ true
        → unwrap_or (cond a (Some i) (place_from (i + 1) cs n)) 0 ≡ unwrap_or (cond b (Some i) (place_from (i + 1) cs m)) 0
        → (has_name (names_of cs) n ≡ true → ((i + 1) ≤ place (i + 1) cs n) × (place (i + 1) cs n < (i + 1) + length cs))
        → (has_name (names_of cs) m ≡ true → ((i + 1) ≤ place (i + 1) cs m) × (place (i + 1) cs m < (i + 1) + length cs))
        → (has_name (names_of cs) n ≡ true → has_name (names_of cs) m ≡ true → place (i + 1) cs n ≡ place (i + 1) cs m → n ≡ m)
        → n ≡ m
    go true true u v p q e l r f = sym (same_text c.name n u) ∙ same_text c.name m v
    go true false u v p q e l r f = absurd (let w = r q in omega (arith, w.0, e))
    go false true u v p q e l r f = absurd (let w = l p in omega (arith, w.0, e))
    go false false u v p q e l r f = f p q e

-- a name that isn't among others is at another place than they are
other-places : (cs : List Column) (n : List ℕ) (ns : List (List ℕ)) → has_name (names_of cs) n ≡ true → first_unknown (names_of cs) ns ≡ None → HasNot n ns → HasNot (place 0 cs n) (places_of cs ns)
other-places cs n [] h k d = tt
other-places cs n (m ∷ ms) h k d =
    let w = all-known (names_of cs) m ms k in
    ((λ e. d.0 (same-place 0 cs m n w.0 h e)), other-places cs n ms h w.1 d.1)

-- distinct names have distinct places
distinct-places : (cs : List Column) (ns : List (List ℕ)) → first_unknown (names_of cs) ns ≡ None → AreDistinct ns → AreDistinct (places_of cs ns)
distinct-places cs [] k d = tt
distinct-places cs (n ∷ ns) k d =
    let w = all-known (names_of cs) n ns k in (other-places cs n ns w.0 w.1 d.0, distinct-places cs ns w.1 d.1)

-- the places of known names are places of columns
places-there : (cs : List Column) (ns : List (List ℕ)) → first_unknown (names_of cs) ns ≡ None → AllBelow (length cs) (places_of cs ns)
places-there cs [] k = tt
places-there cs (n ∷ ns) k =
    let w = all-known (names_of cs) n ns k in
    let v = place-within 0 cs n w.0 in
    (omega (arith, v.1), places-there cs ns w.1)

-- there is a column where their want isn't the reason
some-columns : (cs : List Column) → no_columns cs ≡ None → 1 ≤ length cs
some-columns [] h = absurd (cc)
some-columns (c ∷ cs) h = omega arith

-- a column that is found, and is one of UInt64
found-uint64 : (cs : List Column) (place : Option ℕ) → is_uint64 (kind_there cs place) ≡ true → kind_at cs (unwrap_or place 0) ≡ Some kinds.UInt64
found-uint64 cs None h = absurd (cc)
found-uint64 cs (Some i) h = go (kind_at cs i) h where
  go : (k : Option Kind) → is_uint64 k ≡ true → k ≡ Some kinds.UInt64
  go None h = absurd (cc)
  go (Some kinds.UInt64) h = refl
  go (Some kinds.Int64) h = absurd (cc)
  go (Some kinds.Text) h = absurd (cc)

-- a rule that isn't wrong divides the columns
right-rule : (cs : List Column) (rule : Option (List ℕ × ℕ)) → wrong_rule cs rule ≡ None → IsRule cs (rule_of cs rule)
right-rule cs None h = tt
right-rule cs (Some r) h =
    let t = and_parts (is_uint64 (kind_named cs r.0)) (nat_le 1 r.1) (passed _ _ h) in
    record { typed = found-uint64 cs (place_from 0 cs r.0) t.0; some = leb-true 1 r.1 t.1 }

-- the reasons that don't hold, one by one
pub record NoReasons (columns : List Column) (key : List (List ℕ)) (rule : Option (List ℕ × ℕ)) (granularity window : ℕ) : Type 0 where
  pub empty : no_columns columns ≡ None
  pub unknown : first_unknown (names_of columns) key ≡ None
  pub double_column : first_double (names_of columns) ≡ None
  pub double_name : first_double key ≡ None
  pub wrong : wrong_rule columns rule ≡ None
  pub setting : wrong_setting granularity window ≡ None
  pub many : too_many columns ≡ None

pub no-reasons : (columns : List Column) (key : List (List ℕ)) (rule : Option (List ℕ × ℕ)) (granularity window : ℕ) → schema_refusal columns key rule granularity window ≡ None → NoReasons columns key rule granularity window
unfolding schema_refusal
no-reasons columns key r g w h =
    let a = neither (no_columns columns) _ h in
    let b = neither (option_map (λ (n : List ℕ). UnknownColumn n) (option_or (unknown_in_rule columns r) (first_unknown (names_of columns) key))) _ a.1 in
    let c = neither (option_map (λ (n : List ℕ). DoubleColumn n) (first_double (names_of columns))) _ b.1 in
    let d = neither (option_map (λ (n : List ℕ). DoubleColumn n) (first_double key)) _ c.1 in
    let e = neither (option_map (λ (n : List ℕ). WrongType n) (option_or (wrong_rule columns r) (wrong_setting g w))) _ d.1 in
    let names = neither (unknown_in_rule columns r) _ (unmapped _ _ b.0) in
    let numbers = neither (wrong_rule columns r) _ (unmapped _ _ e.0) in
    record {
      empty = a.0;
      unknown = names.1;
      double_column = unmapped _ _ c.0;
      double_name = unmapped _ _ d.0;
      wrong = numbers.0;
      setting = numbers.1;
      many = e.1;
    }

-- what is refused for no reason makes a schema
pub makes-schema : (columns : List Column) (key : List (List ℕ)) (rule : Option (List ℕ × ℕ)) (granularity window : ℕ) → schema_refusal columns key rule granularity window ≡ None → IsSchema (shape_of columns key rule granularity window)
makes-schema columns key rule g w h =
    let r = no-reasons columns key rule g w h in
    let s = neither (cond (nat_le 1 g && nat_le g 65536) None (Some (codes "index_granularity"))) _ r.setting in
    let t = and_parts (nat_le 1 g) (nat_le g 65536) (passed _ _ s.0) in
    record {
      has_columns = some-columns columns r.empty;
      few_columns = leb-true (length columns) 64 (passed _ _ r.many);
      names_differ = distinct-names (names_of columns) r.double_column;
      key_there = places-there columns key r.unknown;
      key_differs = distinct-places columns key r.unknown (distinct-names key r.double_name);
      rule = right-rule columns rule r.wrong;
      some_granularity = leb-true 1 g t.0;
      small_granularity = leb-true g 65536 t.1;
      small_window = leb-true w 100000 (passed _ _ s.1);
    }
