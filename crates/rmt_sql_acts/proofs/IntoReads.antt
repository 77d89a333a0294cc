-- INTO with and without the keyword TABLE, as the code tries them.
use Rattle.std.proofs.Common.{◌≡◌, ◌∙◌, ℕ, suc, ◌≤◌, ◌<◌, min, List, [], ◌∷◌, ◌++◌, length, refl, ap, Bool, true, false, cond, arith, nat_lt, Result, Ok, Err, inl, inr, ◌⊎◌, map}
use Rattle.std.specs.Prelude.{codes, IsErrAnd}
use Rattle.std.proofs.lemmas.Bool.Decides.{nat_tests}
use Rattle.std.proofs.lemmas.List.{length-append}
use Rattle.rmt_values.specs.declared.item.Item.{Item}
use Rattle.rmt_values.specs.declared.item.Item.TheVariants as items
use Rattle.rmt_sql_tokens.specs.Tokens.{Spot}
use Rattle.rmt_sql_tokens.specs.Classes.{next_among}
use Rattle.rmt_sql_tokens.specs.Exact.{one, left_of, second_try, longest_read}
use Rattle.rmt_sql_tokens.proofs.Falling.{Falling, later_less}
use Rattle.rmt_sql_tokens.proofs.Loops.{err_is}
use Rattle.rmt_sql_acts.specs.Phrases.{word}
use Rattle.rmt_sql_acts.specs.Acts.{into, into_table, item_of}
use Rattle.rmt_sql_acts.specs.Views.{called_item}
use Rattle.rmt_statements.specs.declared.act.Act.{Act}
use Rattle.rmt_sql_acts.proofs.InsertLaws.{into_law, into_table_law}

-- a fault is at the first token or after it
fault_later : (may_set : Bool) (ts f : List Spot) → (into may_set).read ts ≡ Err f → (length f < length ts) ⊎ (f ≡ ts)
fault_later may_set ts f h =
    let fault = (into_law may_set).exact.faults ts f h in
    go fault.prefix fault.rest fault.parts fault.place
  where
    go : (prefix rest : List Spot) → prefix ++ rest ≡ ts → f ≡ rest → (length f < length ts) ⊎ (f ≡ ts)
    go [] rest parts place = inr (place ∙ parts)
    go (s ∷ ss) rest parts place =
        let whole : suc (length (ss ++ rest)) ≡ length ts = ap (λ l. length l) parts in
        let same : length f ≡ length rest = ap (λ l. length l) place in
        inl (omega (arith, whole, same, length-append ss rest))

second_is : {A : Type 0} (ts : List Spot) (o : Result A (List Spot)) → ((f : List Spot) → o ≡ Err f → (length f < length ts) ⊎ (f ≡ ts)) → second_try ts o ≡ o
second_is ts (Ok x) later = refl
second_is {A} ts (Err f) later = go (later f refl)
  where
    go : (length f < length ts) ⊎ (f ≡ ts) → cond {A = Result A (List Spot)} (nat_lt (length f) (length ts)) (Err f) (Err ts) ≡ Err f
    go (inl less) = (let b : nat_lt (length f) (length ts) ≡ true = grind (arith, nat_tests) in rw b refl)
    go (inr same) = rw same (either_way (nat_lt (length ts) (length ts)))
      where
        either_way : (b : Bool) → cond {A = Result A (List Spot)} b (Err ts) (Err ts) ≡ Err ts
        either_way true = refl
        either_way false = refl

no_table : (may_set : Bool) (ts : List Spot) → next_among (word (codes "table")) ts ≡ false → (into_table may_set).read ts ≡ Err ts
unfolding into_table
no_table may_set [] h = refl
no_table may_set (s ∷ ss) h = rw h refl

-- without the keyword there is one reading
pub one_reading : (may_set : Bool) (ts : List Spot) → next_among (word (codes "table")) ts ≡ false → longest_read (into_table may_set).read (into may_set).read ts ≡ (into may_set).read ts
one_reading may_set ts h = rw (no_table may_set ts h) (second_is ts ((into may_set).read ts) (fault_later may_set ts))

-- of two faults the one further on has fewer bytes left
pub further_left : (may_set : Bool) (ts : List Spot) (left other least : ℕ) → Falling ts → IsErrAnd ((into_table may_set).read ts) (λ rest. left ≡ left_of rest) → IsErrAnd ((into may_set).read ts) (λ rest. other ≡ left_of rest)
    → least ≡ min left other → IsErrAnd (longest_read (into_table may_set).read (into may_set).read ts) (λ rest. least ≡ left_of rest)
further_left may_set ts left other least falls one two is =
    let (e, read1, place1) = err_is ((into_table may_set).read ts) left one in
    let (f, read2, place2) = err_is ((into may_set).read ts) other two in
    let a = (into_table_law may_set).exact.faults ts e read1 in
    let b = (into_law may_set).exact.faults ts f read2 in
    rw (read1, read2) (go e f (nat_lt (length f) (length e)) refl place1 place2
    (λ shorter. later_less ts a.prefix e b.prefix f falls (ap (λ l. a.prefix ++ l) a.place ∙ a.parts) (ap (λ l. b.prefix ++ l) b.place ∙ b.parts) shorter)
    (λ shorter. later_less ts b.prefix f a.prefix e falls (ap (λ l. b.prefix ++ l) b.place ∙ b.parts) (ap (λ l. a.prefix ++ l) a.place ∙ a.parts) shorter))
  where
    go : (e f : List Spot) (b : Bool) → nat_lt (length f) (length e) ≡ b → left ≡ left_of e → other ≡ left_of f → (length f ≤ length e → left_of f ≤ left_of e) → (length e ≤ length f → left_of e ≤ left_of f)
        → IsErrAnd (cond {A = Result ((Act × ℕ) × List Spot) (List Spot)} (nat_lt (length f) (length e)) (Err f) (Err e)) (λ rest. least ≡ left_of rest)
    go e f true less place1 place2 first second =
        let shorter : length f ≤ length e = grind (arith, nat_tests) in
        let below = first shorter in
        rw less (omega (arith, is, place1, place2, below))
    go e f false least2 place1 place2 first second =
        let shorter : length e ≤ length f = grind (arith, nat_tests) in
        let below = second shorter in
        rw least2 (omega (arith, is, place1, place2, below))

-- ---- the select list, there and back

item_back : (i : Item) → item_of (called_item i) ≡ i
item_back (items.Column column) = refl
item_back items.Count = refl
item_back (items.Sum column) = refl
item_back (items.Min column) = refl
item_back (items.Max column) = refl

pub items_back : (all : List Item) → map item_of (map called_item all) ≡ all
items_back [] = refl
items_back (i ∷ more) = rw (item_back i) (ap (λ l. i ∷ l) (items_back more))
