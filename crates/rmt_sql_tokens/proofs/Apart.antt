-- Classes of tokens that have none in common.
use Rattle.std.proofs.Common.{◌≡◌, ◌∙◌, ℕ, List, [], ◌∷◌, refl, ap, sym, Bool, true, false, not, cond, map, nat_eq, arith}
use Rattle.std.specs.Prelude.{◌||◌, ◌&&◌}
use Rattle.std.specs.Str.{bytes_eq}
use Rattle.std.specs.Char.{to_ascii_lowercase}
use Rattle.std.proofs.lemmas.Slice.Eq.{bytes_eq-Decides}
use Rattle.std.proofs.lemmas.Bool.Decides.{nat_tests}
use Rattle.rmt_sql_tokens.specs.declared.symbol_kind.SymbolKind.{SymbolKind}
use Rattle.rmt_sql_tokens.specs.declared.symbol_kind.SymbolKind.TheVariants as symbols
use Rattle.rmt_sql_tokens.specs.Tokens.{Token, Word, Number, Text, Symbol, Data, Semicolon, Bad, Beyond, Spot, is_keyword}
use Rattle.rmt_sql_tokens.specs.Classes.{Class, Keyword, Exactly, AnyWord, ColumnWord, AnyNumber, AnyText, Sign, AnyData, End, Limit, is_of, is_same, is_connective, among}

-- a number for each mark
abbrev pub symbol_place : SymbolKind → ℕ
symbol_place symbols.Open = 10
symbol_place symbols.Close = 11
symbol_place symbols.Comma = 12
symbol_place symbols.Equal = 13
symbol_place symbols.At = 14
symbol_place symbols.Plus = 15
symbol_place symbols.Minus = 16
symbol_place symbols.Star = 17
symbol_place symbols.Differs = 18
symbol_place symbols.Less = 19
symbol_place symbols.AtMost = 20
symbol_place symbols.Greater = 21
symbol_place symbols.AtLeast = 22

-- a number for each kind of token, and for the kind that a class is of
abbrev pub token_kind : Token → ℕ
token_kind (Word w) = 0
token_kind (Number n) = 1
token_kind (Text text) = 2
token_kind (Data bytes) = 3
token_kind Semicolon = 4
token_kind Beyond = 5
token_kind Bad = 6
token_kind (Symbol kind) = symbol_place kind

abbrev pub class_kind : Class → ℕ
class_kind (Keyword w) = 0
class_kind (Exactly w) = 0
class_kind AnyWord = 0
class_kind ColumnWord = 0
class_kind AnyNumber = 1
class_kind AnyText = 2
class_kind AnyData = 3
class_kind End = 4
class_kind Limit = 5
class_kind (Sign kind) = symbol_place kind

same_place : (m f : SymbolKind) → is_same m f ≡ true → symbol_place f ≡ symbol_place m
same_place symbols.Open symbols.Open h = refl
same_place symbols.Close symbols.Close h = refl
same_place symbols.Comma symbols.Comma h = refl
same_place symbols.Equal symbols.Equal h = refl
same_place symbols.At symbols.At h = refl
same_place symbols.Plus symbols.Plus h = refl
same_place symbols.Minus symbols.Minus h = refl
same_place symbols.Star symbols.Star h = refl
same_place symbols.Differs symbols.Differs h = refl
same_place symbols.Less symbols.Less h = refl
same_place symbols.AtMost symbols.AtMost h = refl
same_place symbols.Greater symbols.Greater h = refl
same_place symbols.AtLeast symbols.AtLeast h = refl
same_place _ _ h = absurd cc

kind_is : (c : Class) (t : Token) → is_of c t ≡ true → token_kind t ≡ class_kind c
kind_is (Keyword w) (Word x) h = refl
kind_is (Exactly w) (Word x) h = refl
kind_is AnyWord (Word x) h = refl
kind_is ColumnWord (Word x) h = refl
kind_is AnyNumber (Number n) h = refl
kind_is AnyText (Text text) h = refl
kind_is AnyData (Data bytes) h = refl
kind_is End Semicolon h = refl
kind_is Limit Beyond h = refl
kind_is (Sign kind) (Symbol found) h = same_place kind found h
kind_is _ _ h = absurd cc

-- no word is both
abbrev pub words_apart : Class → Class → Bool
words_apart (Keyword v) (Keyword w) = not (is_keyword v w)
words_apart (Keyword v) (Exactly w) = not (is_keyword v w)
words_apart (Exactly v) (Keyword w) = not (is_keyword v w)
words_apart (Exactly v) (Exactly w) = not (is_keyword v w)
words_apart (Keyword v) ColumnWord = is_connective v
words_apart ColumnWord (Keyword w) = is_connective w
words_apart _ _ = false

is_false : (b : Bool) → (b ≡ true → ⊥) → b ≡ false
is_false true h = absurd (h refl)
is_false false h = refl

not_true : (b : Bool) → not b ≡ true → b ≡ false
not_true true h = absurd cc
not_true false h = refl

lower : (x w : List ℕ) → is_keyword x w ≡ true → map to_ascii_lowercase x ≡ map to_ascii_lowercase w
lower x w h = (bytes_eq-Decides _ _).0 h

lower_exact : (x w : List ℕ) → bytes_eq x w ≡ true → map to_ascii_lowercase x ≡ map to_ascii_lowercase w
lower_exact x w h = ap (map to_ascii_lowercase) ((bytes_eq-Decides _ _).0 h)

exact_lower : (x w : List ℕ) → (is_keyword x w ≡ false) → bytes_eq x w ≡ false
exact_lower x w h = is_false (bytes_eq x w) (λ e. (let k = (bytes_eq-Decides (map to_ascii_lowercase x) (map to_ascii_lowercase w)).1 (lower_exact x w e) in absurd cc))

-- what a word is, each word of the same letters is
same_keyword : (x v w : List ℕ) → map to_ascii_lowercase x ≡ map to_ascii_lowercase v → is_keyword x w ≡ is_keyword v w
same_keyword x v w h = rw h refl

same_connective : (x v : List ℕ) → map to_ascii_lowercase x ≡ map to_ascii_lowercase v → is_connective x ≡ is_connective v
same_connective x v h = rw h refl

words_false : (c d : Class) (x : List ℕ) → words_apart c d ≡ true → is_of c (Word x) ≡ true → is_of d (Word x) ≡ false
words_false (Keyword v) (Keyword w) x h k = same_keyword x v w (lower x v k) ∙ not_true (is_keyword v w) h
words_false (Keyword v) (Exactly w) x h k = exact_lower x w (same_keyword x v w (lower x v k) ∙ not_true (is_keyword v w) h)
words_false (Exactly v) (Keyword w) x h k = same_keyword x v w (lower_exact x v k) ∙ not_true (is_keyword v w) h
words_false (Exactly v) (Exactly w) x h k = exact_lower x w (same_keyword x v w (lower_exact x v k) ∙ not_true (is_keyword v w) h)
words_false (Keyword v) ColumnWord x h k = (let e = same_connective x v (lower x v k) ∙ h in rw e refl)
words_false ColumnWord (Keyword w) x h k =
    is_false (is_keyword x w) (λ e. (let f = same_connective x w (lower x w e) ∙ h in let g = not_true (is_connective x) k in absurd cc))
words_false _ _ x h k = absurd cc

-- no token is of both classes
abbrev pub apart : Class → Class → Bool
apart c d = cond (nat_eq (class_kind c) (class_kind d)) (words_apart c d) true

word_false : (c d : Class) (t : Token) → words_apart c d ≡ true → is_of c t ≡ true → is_of d t ≡ false
word_false c d (Word x) h k = words_false c d x h k
word_false (Keyword v) _ _ h k = absurd cc
word_false (Exactly v) _ _ h k = absurd cc
word_false ColumnWord _ _ h k = absurd cc
word_false _ _ _ h k = absurd cc

apart_is : (c d : Class) (t : Token) → apart c d ≡ true → is_of c t ≡ true → is_of d t ≡ false
apart_is c d t h k = go (nat_eq (class_kind c) (class_kind d)) refl h
  where
    go : (b : Bool) → nat_eq (class_kind c) (class_kind d) ≡ b → cond b (words_apart c d) true ≡ true → is_of d t ≡ false
    go true e h = word_false c d t h k
    go false e h = is_false (is_of d t) (λ g. (let kinds : class_kind c ≡ class_kind d = sym (kind_is c t k) ∙ kind_is d t g in absurd (grind (arith, nat_tests))))

abbrev pub apart_all : Class → List Class → Bool
apart_all c [] = true
apart_all c (d ∷ ds) = apart c d && apart_all c ds

-- no token is of a class of both lists
abbrev pub disjoint : List Class → List Class → Bool
disjoint [] ds = true
disjoint (c ∷ cs) ds = apart_all c ds && disjoint cs ds

and_parts : (a b : Bool) → a && b ≡ true → (a ≡ true) × (b ≡ true)
and_parts true b h = (refl, h)
and_parts false b h = absurd cc

or_parts : (a b v : Bool) → (a ≡ true → v ≡ false) → (b ≡ true → v ≡ false) → a || b ≡ true → v ≡ false
or_parts true b v f g h = f refl
or_parts false b v f g h = g h

apart_from : (c : Class) (ds : List Class) (s : Spot) → apart_all c ds ≡ true → is_of c s.token ≡ true → among ds s ≡ false
apart_from c [] s h k = refl
apart_from c (d ∷ []) s h k = apart_is c d s.token (and_parts (apart c d) true h).0 k
apart_from c (d ∷ e ∷ ds) s h k =
    let (first, others) = and_parts (apart c d) (apart_all c (e ∷ ds)) h in
    rw (apart_is c d s.token first k) (apart_from c (e ∷ ds) s others k)

pub disjoint_is : (cs ds : List Class) → disjoint cs ds ≡ true → (s : Spot) → among cs s ≡ true → among ds s ≡ false
disjoint_is [] ds h s k = absurd cc
disjoint_is (c ∷ []) ds h s k = apart_from c ds s (and_parts (apart_all c ds) true h).0 k
disjoint_is (c ∷ e ∷ cs) ds h s k =
    let (first, others) = and_parts (apart_all c ds) (disjoint (e ∷ cs) ds) h in
    or_parts (is_of c s.token) (among (e ∷ cs) s) (among ds s) (λ a. apart_from c ds s first a) (λ b. disjoint_is (e ∷ cs) ds others s b) k
