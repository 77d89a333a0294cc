-- A window's entries as the kept blocks.
use Rattle.std.proofs.Common.{◌≡◌, refl, sym, ap, ◌∙◌, arith, Bool, true, false, cond, List, [], ◌∷◌, ◌++◌, ◌+◌, ◌<◌, ◌≤◌, ◌&&◌, length, take, drop}
use Rattle.std.proofs.lemmas.List.{length-append}
use Rattle.std.specs.Prelude.{ℕ, zero, suc, filter, is_some, nat_eq, nat_lt, position, slice_get}
use Rattle.std.specs.Option.{option_eq, option_map}
use Rattle.std.specs.Str.{bytes_eq}
use Rattle.std.specs.Map.{lookup, keys_of}
use Rattle.std.specs.List.{AllByRecursion, IsDistinct, position_or_len}
use mathlib.Core.Bool.{true≢false}
use Rattle.std.proofs.lemmas.List.Recursion.{is_position_or_len}
use Rattle.std.proofs.lemmas.Bool.Decides.{nat_tests}
use Rattle.std.specs.declared.option.Option.{Option}
use Rattle.std.specs.declared.option.Option.TheVariants.{Some, None}
use Rattle.rmt_names.specs.Names.{Name, rank}
use Rattle.rmt_block.specs.declared.block_id.BlockId.{BlockId}
use Rattle.rmt_table_model.specs.Kept.{Placed, has_id, with_id}
use Rattle.rmt_table_model.specs.Inserts.{part_of}
use Rattle.rmt_inserts.specs.declared.kept_block.KeptBlock.{KeptBlock}
use Rattle.rmt_inserts.specs.Windows.{placed_of, newest_first, AreOfParts}
use Rattle.rmt_inserts.specs.Inside.{same_id, gone_after}

-- an id with what is kept beside it
abbrev pub Entry : Type 0
Entry = BlockId × KeptBlock

-- ---- the newest comes last

newest_first-append : (es : List Entry) (e : Entry) → newest_first (es ++ e ∷ []) ≡ placed_of e ∷ newest_first es
newest_first-append [] e = refl
newest_first-append (f ∷ es) e = ap (λ ks. ks ++ placed_of f ∷ []) (newest_first-append es e)

pub length-newest_first : (es : List Entry) → length (newest_first es) ≡ length es
length-newest_first [] = refl
length-newest_first (e ∷ es) =
    let one : length (placed_of e ∷ []) ≡ 1 = omega arith in
    let all : length (e ∷ es) ≡ suc (length es) = omega arith in
    omega (arith, length-append (newest_first es) (placed_of e ∷ []), length-newest_first es, one, all)

-- ---- as many as there are, and all but the oldest

take_whole : (n : ℕ) (ks : List Placed) → length ks ≤ n → take n ks ≡ ks
take_whole zero [] within = refl
take_whole (suc n) [] within = refl
take_whole zero (k ∷ ks) within = absurd (omega (arith, within))
take_whole (suc n) (k ∷ ks) within = ap (λ ks. k ∷ ks) (take_whole n ks (omega (arith, within)))

take_but : (n : ℕ) (ks : List Placed) (k : Placed) → length ks ≡ n → take n (ks ++ k ∷ []) ≡ ks
take_but zero [] k is = refl
take_but (suc n) [] k is = absurd (omega (arith, is))
take_but zero (j ∷ ks) k is = absurd (omega (arith, is))
take_but (suc n) (j ∷ ks) k is = ap (λ ks. j ∷ ks) (take_but n ks k (omega (arith, is)))

-- ---- entries that were let go

pub drop-append : (g : ℕ) (es : List Entry) (e : Entry) → g ≤ length es → drop g (es ++ e ∷ []) ≡ drop g es ++ e ∷ []
drop-append zero es e within = refl
drop-append (suc g) [] e within = absurd (omega (arith, within))
drop-append (suc g) (f ∷ es) e within = drop-append g es e (omega (arith, within))

drop-one : (g : ℕ) (es : List Entry) → drop (suc g) es ≡ drop 1 (drop g es)
drop-one zero es = refl
drop-one (suc g) [] = refl
drop-one (suc g) (e ∷ es) = drop-one g es

pub length-dropped : (g : ℕ) (es : List Entry) → g ≤ length es → length (drop g es) + g ≡ length es
length-dropped zero es within = omega arith
length-dropped (suc g) [] within = absurd (omega (arith, within))
length-dropped (suc g) (e ∷ es) within = let l = length-dropped g es (omega (arith, within)) in omega (arith, l)

pub AreOfParts-drop : (g : ℕ) (es : List Entry) → AreOfParts es → AreOfParts (drop g es)
AreOfParts-drop zero es all = all
AreOfParts-drop (suc g) [] all = tt
AreOfParts-drop (suc g) (e ∷ es) all = AreOfParts-drop g es all.1

pub AreOfParts-append : (es : List Entry) (e : Entry) → AreOfParts es → e.0.partition ≡ e.1.part.partition → AreOfParts (es ++ e ∷ [])
AreOfParts-append [] e all here = (here, tt)
AreOfParts-append (f ∷ es) e all here = (all.0, AreOfParts-append es e all.1 here)

-- ---- with one more

-- the entries after one more, and the blocks of those that are kept
module _ (n g : ℕ) (es fs : List Entry) (e : Entry) (added : fs ≡ es ++ e ∷ []) (gone : g ≤ length es) where
  kept-then : drop g fs ≡ drop g es ++ e ∷ []
  kept-then = ap (drop g) added ∙ drop-append g es e gone

  seen-then : newest_first (drop g fs) ≡ placed_of e ∷ newest_first (drop g es)
  seen-then = ap newest_first kept-then ∙ newest_first-append (drop g es) e

  one-longer : length fs ≡ suc (length es)
  one-longer = ap (λ (xs : List Entry). length xs) added ∙ length-append es (e ∷ []) ∙ (let one : length (e ∷ []) ≡ 1 = omega arith in omega (arith, one))

  pub with-one : length fs ≤ n + g → newest_first (drop g fs) ≡ take n (placed_of e ∷ newest_first (drop g es))
  with-one within =
      let count = length-newest_first (drop g es) in
      let all = length-dropped g es gone in
      let one = one-longer in
      let more : length (placed_of e ∷ newest_first (drop g es)) ≡ suc (length (newest_first (drop g es))) = omega arith in
      seen-then ∙ sym (take_whole n (placed_of e ∷ newest_first (drop g es)) (omega (arith, within, count, all, one, more)))

  rest-kept : (xs : List Entry) → length xs ≡ suc n → newest_first (drop 1 xs) ≡ take n (newest_first xs)
  rest-kept [] full = absurd (omega (arith, full))
  rest-kept (x ∷ xs) full = sym (take_but n (newest_first xs) (placed_of x) (omega (arith, full, length-newest_first xs)))

  pub without-oldest : n + g < length fs → length (newest_first (drop g es)) ≤ n → newest_first (drop (suc g) fs) ≡ take n (placed_of e ∷ newest_first (drop g es))
  without-oldest past within =
      let count = length-newest_first (drop g es) in
      let all = length-dropped g es gone in
      let one = one-longer in
      let left = length-dropped g fs (omega (arith, one, gone)) in
      let full : length (drop g fs) ≡ suc n = omega (arith, past, within, count, all, one, left) in
      ap newest_first (drop-one g fs) ∙ rest-kept (drop g fs) full ∙ ap (take n) seen-then

  -- as many as there may be
  pub with-limit : length (newest_first (drop g es)) ≤ n → newest_first (drop (gone_after n g (length fs)) fs) ≡ take n (placed_of e ∷ newest_first (drop g es))
  with-limit within = go (nat_lt (n + g) (length fs)) refl
    where
      go : (b : Bool) → nat_lt (n + g) (length fs) ≡ b → newest_first (drop (cond b (g + 1) g) fs) ≡ take n (placed_of e ∷ newest_first (drop g es))
      go true t =
          let past : n + g < length fs = grind (arith, nat_tests) in
          let next : g + 1 ≡ suc g = omega arith in
          ap (λ k. newest_first (drop k fs)) next ∙ without-oldest past within
      go false t = with-one (grind (arith, nat_tests))

  pub gone-within : gone_after n g (length fs) ≤ length fs
  gone-within = go (nat_lt (n + g) (length fs)) refl
    where
      go : (b : Bool) → nat_lt (n + g) (length fs) ≡ b → cond b (g + 1) g ≤ length fs
      go true t = let past : n + g < length fs = grind (arith, nat_tests) in omega (arith, past)
      go false t = let one = one-longer in omega (arith, one, gone)

-- ---- what a drop leaves

filter_at : (b : Bool) (j : Placed) (more most end : List Placed) → more ≡ most ++ end → cond b (j ∷ more) more ≡ cond b (j ∷ most) most ++ end
filter_at true j more most end is = ap (λ ks. j ∷ ks) is
filter_at false j more most end is = is

filter-one : (f : Placed → Bool) (ks : List Placed) (k : Placed) → filter f (ks ++ k ∷ []) ≡ filter f ks ++ cond (f k) (k ∷ []) []
filter-one f [] k = refl
filter-one f (j ∷ ks) k = filter_at (f j) j (filter f (ks ++ k ∷ [])) (filter f ks) (cond (f k) (k ∷ []) []) (filter-one f ks k)

append_none : (ks : List Placed) → ks ++ [] ≡ ks
append_none [] = refl
append_none (k ∷ ks) = ap (λ ks. k ∷ ks) (append_none ks)

kept_at : (b : Bool) (g : Entry → Bool) (e : Entry) (es : List Entry) → newest_first (cond b (e ∷ filter g es) (filter g es)) ≡ newest_first (filter g es) ++ cond b (placed_of e ∷ []) []
kept_at true g e es = refl
kept_at false g e es = sym (append_none (newest_first (filter g es)))

-- what is left of the entries is what is left of the kept blocks
pub newest_first-filter : (f : Placed → Bool) (g : Entry → Bool) → ((e : Entry) → g e ≡ f (placed_of e)) → (es : List Entry) → newest_first (filter g es) ≡ filter f (newest_first es)
newest_first-filter f g same [] = refl
newest_first-filter f g same (e ∷ es) =
    kept_at (g e) g e es
    ∙ (λ i. newest_first-filter f g same es i ++ cond (same e i) (placed_of e ∷ []) [])
    ∙ sym (filter-one f (newest_first es) (placed_of e))

left_of_parts : (b : Bool) (e : Entry) (es : List Entry) → e.0.partition ≡ e.1.part.partition → AreOfParts es → AreOfParts (cond b (e ∷ es) es)
left_of_parts true e es here rest = (here, rest)
left_of_parts false e es here rest = rest

pub AreOfParts-filter : (g : Entry → Bool) (es : List Entry) → AreOfParts es → AreOfParts (filter g es)
AreOfParts-filter g [] all = tt
AreOfParts-filter g (e ∷ es) all = left_of_parts (g e) e (filter g es) all.0 (AreOfParts-filter g es all.1)

-- ---- the place of an entry, counted from the newest

get-append : (ks : List Placed) (k : Placed) (i : ℕ) → i < length ks → slice_get (ks ++ k ∷ []) i ≡ slice_get ks i
get-append [] k i within = absurd (omega (arith, within))
get-append (j ∷ ks) k zero within = refl
get-append (j ∷ ks) k (suc i) within = get-append ks k i (omega (arith, within))

get-last : (ks : List Placed) (k : Placed) (i : ℕ) → i ≡ length ks → slice_get (ks ++ k ∷ []) i ≡ Some k
get-last [] k zero is = refl
get-last [] k (suc i) is = absurd (omega (arith, is))
get-last (j ∷ ks) k zero is = absurd (omega (arith, is))
get-last (j ∷ ks) k (suc i) is = get-last ks k i (omega (arith, is))

pub get-newest_first : (es : List Entry) (e : Entry) (i j : ℕ) → slice_get es j ≡ Some e → i + j + 1 ≡ length es → slice_get (newest_first es) i ≡ Some (placed_of e)
get-newest_first [] e i j is place = absurd (true≢false (sym (ap is_some is)))
get-newest_first (f ∷ es) e i zero is place =
    get-last (newest_first es) (placed_of f) i (let l = length-newest_first es in omega (arith, l, place))
    ∙ ap (option_map placed_of) is
get-newest_first (f ∷ es) e i (suc j) is place =
    get-append (newest_first es) (placed_of f) i (let l = length-newest_first es in omega (arith, l, place))
    ∙ get-newest_first es e i j is (omega (arith, place))

pub get-dropped : (g : ℕ) (es : List Entry) (i : ℕ) → slice_get (drop g es) i ≡ slice_get es (g + i)
get-dropped zero es i = let same : i ≡ 0 + i = omega arith in ap (slice_get es) same
get-dropped (suc g) [] i = refl
get-dropped (suc g) (e ∷ es) i = let same : suc (g + i) ≡ suc g + i = omega arith in get-dropped g es i ∙ ap (slice_get (e ∷ es)) same

-- ---- ids

later_rank : (a b : ℕ) → nat_eq (a + 1) (b + 1) ≡ nat_eq a b
later_rank a b = grind arith

first_rank : (a : ℕ) → nat_eq (a + 1) 0 ≡ false
first_rank a = grind arith

no_rank : (a : ℕ) → nat_eq 0 (a + 1) ≡ false
no_rank a = grind arith

same_rank : (p q : Option ℕ) → option_eq nat_eq p q ≡ nat_eq (rank p) (rank q)
same_rank None None = refl
same_rank None (Some q) = sym (no_rank q)
same_rank (Some p) None = sym (first_rank p)
same_rank (Some p) (Some q) = sym (later_rank p q)

-- an entry has the id that its kept block has
same_id-kept : (id : BlockId) (e : Entry) → e.0.partition ≡ e.1.part.partition → same_id id e.0 ≡ has_id id.partition id.digest (placed_of e)
same_id-kept id e part = λ i. (same_rank id.partition e.0.partition ∙ ap (λ q. nat_eq (rank id.partition) (rank q)) part) i && bytes_eq id.digest e.0.digest

-- the first of two
abbrev or_else : Option Placed → Option Placed → Option Placed
or_else None y = y
or_else (Some x) y = Some x

with_id-append : (p : Option ℕ) (d : List ℕ) (ks : List Placed) (k : Placed) → with_id p d (ks ++ k ∷ []) ≡ or_else (with_id p d ks) (cond (has_id p d k) (Some k) None)
with_id-append p d [] k = refl
with_id-append p d (j ∷ ks) k = go (has_id p d j) (with_id-append p d ks k)
  where
    go : (b : Bool) → with_id p d (ks ++ k ∷ []) ≡ or_else (with_id p d ks) (cond (has_id p d k) (Some k) None)
        → cond b (Some j) (with_id p d (ks ++ k ∷ [])) ≡ or_else (cond b (Some j) (with_id p d ks)) (cond (has_id p d k) (Some k) None)
    go true rest = refl
    go false rest = rest

none_left : (b : Bool) (x : Option Placed) (y : Option KeptBlock) (e : Entry) → or_else x (cond b (Some (placed_of e)) None) ≡ None → (x ≡ None → y ≡ None) → cond b (Some e.1) y ≡ None
none_left true None y e none rest = absurd (true≢false (ap is_some none))
none_left false None y e none rest = rest refl
none_left b (Some j) y e none rest = absurd (true≢false (ap is_some none))

-- an id that isn't kept has no entry
pub absent-entry : (id : BlockId) (es : List Entry) → AreOfParts es → with_id id.partition id.digest (newest_first es) ≡ None → lookup (same_id id) es ≡ None
absent-entry id [] all none = refl
absent-entry id (e ∷ es) all none =
    ap (λ b. cond b (Some e.1) (lookup (same_id id) es)) (same_id-kept id e all.0)
    ∙ none_left (has_id id.partition id.digest (placed_of e)) (with_id id.partition id.digest (newest_first es)) (lookup (same_id id) es) e
    (sym (with_id-append id.partition id.digest (newest_first es) (placed_of e)) ∙ none) (absent-entry id es all.1)

-- no two entries have one id
abbrev pub AreApart : List Entry → Type 0
AreApart [] = Unit {0}
AreApart (e ∷ es) = ((id : BlockId) → same_id id e.0 ≡ true → lookup (same_id id) es ≡ None) × AreApart es

pub AreApart-drop : (g : ℕ) (es : List Entry) → AreApart es → AreApart (drop g es)
AreApart-drop zero es all = all
AreApart-drop (suc g) [] all = tt
AreApart-drop (suc g) (e ∷ es) all = AreApart-drop g es all.1

-- the part of what is kept beside an id
abbrev pub part_beside : Option KeptBlock → Option Name
part_beside b = option_map (λ k. k.part) b

found_at : (b : Bool) (x : Option Placed) (y : Option KeptBlock) (e : Entry) → (b ≡ true → y ≡ None) → part_beside y ≡ option_map (λ k. k.kept.part) x → part_beside (cond b (Some e.1) y) ≡ option_map (λ k. k.kept.part) (or_else x (cond b (Some (placed_of e)) None))
found_at true None y e apart rest = refl
found_at true (Some j) y e apart rest = absurd (true≢false (ap is_some (sym rest ∙ ap part_beside (apart refl))))
found_at false None y e apart rest = rest
found_at false (Some j) y e apart rest = rest

-- the part of an id is that of its entry
pub part-entry : (id : BlockId) (es : List Entry) → AreOfParts es → AreApart es → part_beside (lookup (same_id id) es) ≡ part_of id.partition id.digest (newest_first es)
part-entry id [] all apart = refl
part-entry id (e ∷ es) all apart =
    ap (λ b. part_beside (cond b (Some e.1) (lookup (same_id id) es))) (same_id-kept id e all.0)
    ∙ found_at (has_id id.partition id.digest (placed_of e)) (with_id id.partition id.digest (newest_first es)) (lookup (same_id id) es) e
    (λ is. apart.0 id (same_id-kept id e all.0 ∙ is)) (part-entry id es all.1 apart.1)
    ∙ ap (option_map (λ k. k.kept.part)) (sym (with_id-append id.partition id.digest (newest_first es) (placed_of e)))

-- ---- where an id is found

-- an id that isn't found isn't kept
pub lookup-none : (test : BlockId → Bool) (g : ℕ) (es : List Entry) → lookup test es ≡ None → lookup test (drop g es) ≡ None
lookup-none test zero es none = none
lookup-none test (suc g) [] none = refl
lookup-none test (suc g) (e ∷ es) none = go (test e.0) none (λ rest. lookup-none test g es rest)
  where
    go : (b : Bool) → cond b (Some e.1) (lookup test es) ≡ None → (lookup test es ≡ None → lookup test (drop g es) ≡ None) → lookup test (drop g es) ≡ None
    go true is rest = absurd (true≢false (ap is_some is))
    go false is rest = rest is

-- the place of the first key that passes
abbrev first_of : (BlockId → Bool) → List BlockId → ℕ
first_of test [] = 0
first_of test (k ∷ ks) = cond (test k) 0 (1 + first_of test ks)

first-of : (test : BlockId → Bool) (ks : List BlockId) → first_of test ks ≡ position_or_len test ks
first-of test ks = is_position_or_len (first_of test) test refl (λ k ks. refl) ks

found-first : (test : BlockId → Bool) (ks : List BlockId) (i : ℕ) → position test ks ≡ Some i → (first_of test ks ≡ i) × (i < length ks)
found-first test ks i at = go (nat_lt (position_or_len test ks) (length ks)) refl at
  where
    go : (b : Bool) → nat_lt (position_or_len test ks) (length ks) ≡ b → cond b (Some (position_or_len test ks)) None ≡ Some i → (first_of test ks ≡ i) × (i < length ks)
    go true l e =
        let same : position_or_len test ks ≡ i = cc in
        let first = first-of test ks ∙ same in
        (first, (let within : position_or_len test ks < length ks = grind (arith, nat_tests) in omega (arith, within, same)))
    go false l e = absurd (cc)

-- an id whose first entry is past those that were let go is kept
first-kept : (test : BlockId → Bool) (g i : ℕ) (es : List Entry) → first_of test (keys_of es) ≡ i → g ≤ i → lookup test (drop g es) ≡ lookup test es
first-kept test zero i es first past = refl
first-kept test (suc g) i [] first past = refl
first-kept test (suc g) i (e ∷ es) first past = go (test e.0) first (λ later. first-kept test g (first_of test (keys_of es)) es refl later)
  where
    go : (b : Bool) → cond b 0 (1 + first_of test (keys_of es)) ≡ i → (g ≤ first_of test (keys_of es) → lookup test (drop g es) ≡ lookup test es) → lookup test (drop g es) ≡ cond b (Some e.1) (lookup test es)
    go true is rest = absurd (omega (arith, is, past))
    go false is rest = rest (omega (arith, is, past))

pub lookup-kept : (test : BlockId → Bool) (g i : ℕ) (es : List Entry) → position test (keys_of es) ≡ Some i → g ≤ i → lookup test (drop g es) ≡ lookup test es
lookup-kept test g i es at past = first-kept test g i es (found-first test (keys_of es) i at).0 past

-- and one whose first entry is among them isn't kept
first-gone : (id : BlockId) (g i : ℕ) (es : List Entry) → AreApart es → first_of (same_id id) (keys_of es) ≡ i → i < length (keys_of es) → i < g → lookup (same_id id) (drop g es) ≡ None
first-gone id zero i es apart first within past = absurd (omega (arith, past))
first-gone id (suc g) i [] apart first within past = refl
first-gone id (suc g) i (e ∷ es) apart first within past = go (same_id id e.0) refl first (λ there sooner. first-gone id g (first_of (same_id id) (keys_of es)) es apart.1 refl there sooner)
  where
    go : (b : Bool) → same_id id e.0 ≡ b → cond b 0 (1 + first_of (same_id id) (keys_of es)) ≡ i
        → (first_of (same_id id) (keys_of es) < length (keys_of es) → first_of (same_id id) (keys_of es) < g → lookup (same_id id) (drop g es) ≡ None) → lookup (same_id id) (drop g es) ≡ None
    go true t is rest = lookup-none (same_id id) g es (apart.0 id t)
    go false t is rest = rest (omega (arith, is, within)) (omega (arith, is, past))

pub lookup-gone : (id : BlockId) (g i : ℕ) (es : List Entry) → AreApart es → position (same_id id) (keys_of es) ≡ Some i → i < g → lookup (same_id id) (drop g es) ≡ None
lookup-gone id g i es apart at past = let f = found-first (same_id id) (keys_of es) i at in first-gone id g i es apart f.0 f.1 past

-- ---- the keys of a map are apart

and_left : (a b : Bool) → (a && b) ≡ true → a ≡ true
and_left true b is = refl
and_left false b is = absurd (true≢false (sym is))

and_right : (a b : Bool) → (a && b) ≡ true → b ≡ true
and_right true b is = is
and_right false b is = absurd (true≢false (sym is))

number_is : (a b : ℕ) → nat_eq a b ≡ true → a ≡ b
number_is a b is = grind (arith, is)

partition_is : (p q : Option ℕ) → option_eq nat_eq p q ≡ true → p ≡ q
partition_is None None is = refl
partition_is None (Some q) is = absurd (true≢false (sym is))
partition_is (Some p) None is = absurd (true≢false (sym is))
partition_is (Some p) (Some q) is = ap (λ n. Some n) (number_is p q is)

bytes_are : (xs ys : List ℕ) → bytes_eq xs ys ≡ true → xs ≡ ys
bytes_are [] [] is = refl
bytes_are [] (y ∷ ys) is = absurd (true≢false (sym is))
bytes_are (x ∷ xs) [] is = absurd (true≢false (sym is))
bytes_are (x ∷ xs) (y ∷ ys) is = λ i. number_is x y (and_left (nat_eq x y) (bytes_eq xs ys) is) i ∷ bytes_are xs ys (and_right (nat_eq x y) (bytes_eq xs ys) is) i

same_id-congr : (a b c : BlockId) → same_id a b ≡ true → same_id a c ≡ same_id b c
same_id-congr a b c is = λ i.
    option_eq nat_eq (partition_is a.partition b.partition (and_left (option_eq nat_eq a.partition b.partition) (bytes_eq a.digest b.digest) is) i) c.partition
    && bytes_eq (bytes_are a.digest b.digest (and_right (option_eq nat_eq a.partition b.partition) (bytes_eq a.digest b.digest) is) i) c.digest

none_after : (id e : BlockId) (es : List Entry) → same_id id e ≡ true → AllByRecursion (λ f. same_id e f ≡ false) (keys_of es) → lookup (same_id id) es ≡ None
none_after id e [] is none = refl
none_after id e (f ∷ es) is none = ap (λ b. cond b (Some f.1) (lookup (same_id id) es)) (same_id-congr id e f.0 is ∙ none.0) ∙ none_after id e es is none.1

pub AreApart-unique : (es : List Entry) → IsDistinct same_id (keys_of es) → AreApart es
unfolding IsDistinct
AreApart-unique [] unique = tt
AreApart-unique (e ∷ es) unique = (λ id is. none_after id e.0 es is unique.0, AreApart-unique es unique.1)
