-- Forms of tokens, and what it is to read a form exactly: from the left, with the place of the first token that cannot follow.
use Rattle.std.specs.Prelude.{◌≡◌, ◌⊎◌, ◌&&◌, nat_lt, ℕ, zero, suc, List, [], ◌∷◌, ◌++◌, length, Bool, true, false, Option, Some, None, Result, Ok, Err, IsErrAnd, if◌then◌else◌}
use Rattle.rmt_sql_tokens.specs.declared.read_error.ReadError.{ReadError}
use Rattle.rmt_sql_tokens.specs.declared.read_error.ReadError.TheVariants as errors
use Rattle.rmt_sql_tokens.specs.Tokens.{Spot}
use Rattle.rmt_sql_tokens.specs.Classes.{Class, among, next_among}

-- where what comes next begins
abbrev pub left_of : List Spot → ℕ
left_of [] = 0
left_of (s ∷ ss) = s.left

-- the next reader reads on after the first, unless it met a fault
infixl 10 ◌>>=◌
abbrev pub ◌>>=◌ : {A B : Type 0} → Result A (List Spot) → (A → Result B (List Spot)) → Result B (List Spot)
(Ok x) >>= f = f x
(Err e) >>= f = Err e

-- ---- what it is to read a form exactly

-- no token of these classes, which would go on, comes next
abbrev pub Stops : List Class → List Spot → Type 0
Stops on [] = Unit {0}
Stops on (s ∷ ss) = among on s ≡ false

-- no token goes on
abbrev pub never : {A : Type 0} → A → List Class
never a = []

-- these tokens begin a line of the form
pub record Begins {A : Type 0} (L : List Spot → A → Type 0) (prefix : List Spot) : Type 0 where
  pub more : List Spot
  pub value : A
  pub is : L (prefix ++ more) value

-- The tokens before the place begin a line of the form, and with the token there nothing is read, whatever follows.
pub record FaultsAt {A : Type 0} (L : List Spot → A → Type 0) (r : List Spot → Result (A × List Spot) (List Spot)) (ts : List Spot) (n : List Spot) : Type 0 where
  pub prefix : List Spot
  pub rest : List Spot
  pub parts : prefix ++ rest ≡ ts
  pub place : n ≡ rest
  pub blocked : (t : Spot) (later more : List Spot) → rest ≡ t ∷ later → r (prefix ++ t ∷ more) ≡ Err (t ∷ more)
  pub begins : Begins L prefix

-- what a reader found
pub record Found {A : Type 0} (L : List Spot → A → Type 0) (on : A → List Class) (ts : List Spot) (a : A) (rest : List Spot) : Type 0 where
  pub prefix : List Spot
  pub parts : prefix ++ rest ≡ ts
  pub is : L prefix a
  pub stops : Stops (on a) rest

-- The reader reads the form: what it finds is a line of it, each line of it is found, unless the next token goes on, and its faults are exact.
pub record Exact {A : Type 0} (L : List Spot → A → Type 0) (r : List Spot → Result (A × List Spot) (List Spot)) (on : A → List Class) : Type 0 where
  pub found : (ts : List Spot) (a : A) (rest : List Spot) → r ts ≡ Ok (a, rest) → Found L on ts a rest
  pub only : (prefix : List Spot) (a : A) (more : List Spot) → L prefix a → Stops (on a) more → r (prefix ++ more) ≡ Ok (a, more)
  pub faults : (ts : List Spot) (n : List Spot) → r ts ≡ Err n → FaultsAt L r ts n
  pub some : Begins L []

-- No prefix of the tokens is a line of the form. Those before the place begin one, and with the token there they begin none.
pub record IsOffset {A : Type 0} (L : List Spot → A → Type 0) (ts : List Spot) (left : ℕ) : Type 0 where
  pub prefix : List Spot
  pub rest : List Spot
  pub parts : prefix ++ rest ≡ ts
  pub place : left ≡ left_of rest
  pub begins : Begins L prefix
  pub blocked : (t : Spot) (later : List Spot) → rest ≡ t ∷ later → Begins L (prefix ++ t ∷ []) → ⊥
  pub no_line : (line more : List Spot) (a : A) → line ++ more ≡ ts → L line a → ⊥

-- ---- forms, and their readers

-- one token, of which the test gives a value
abbrev pub One : {A : Type 0} → (Spot → Option A) → List Spot → A → Type 0
One p [] a = ⊥
One p (s ∷ []) a = p s ≡ Some a
One p (s ∷ t ∷ ts) a = ⊥

-- the value of a token that the test gives one, and else a fault at it
abbrev pub one_of : {A : Type 0} → Option A → Spot → List Spot → Result (A × List Spot) (List Spot)
one_of (Some a) s ss = Ok (a, ss)
one_of None s ss = Err (s ∷ ss)

-- reads one token by its test
abbrev pub one : {A : Type 0} → (Spot → Option A) → List Spot → Result (A × List Spot) (List Spot)
one p [] = Err []
one p (s ∷ ss) = one_of (p s) s ss

-- one form after the other
pub record Then {A B : Type 0} (L : List Spot → A → Type 0) (M : A → List Spot → B → Type 0) (ts : List Spot) (b : B) : Type 0 where
  pub prefix : List Spot
  pub rest : List Spot
  pub value : A
  pub parts : prefix ++ rest ≡ ts
  pub first : L prefix value
  pub second : M value rest b

-- nothing, which gives a value
abbrev pub Gives : {A : Type 0} → A → List Spot → A → Type 0
Gives x ts a = (ts ≡ []) × (a ≡ x)

-- [x]
abbrev pub Maybe : {A : Type 0} → (List Spot → A → Type 0) → List Spot → Option A → Type 0
Maybe L ts None = ts ≡ []
Maybe L ts (Some a) = L ts a

-- the next token tells whether it is there
abbrev pub maybe_read : {A : Type 0} → List Class → (List Spot → Result (A × List Spot) (List Spot)) → List Spot → Result (Option A × List Spot) (List Spot)
maybe_read cs r ts = if next_among cs ts then (r ts >>= λ x. Ok (Some x.0, x.1)) else Ok (None, ts)

-- a | b
abbrev pub Either : {A : Type 0} → (List Spot → A → Type 0) → (List Spot → A → Type 0) → List Spot → A → Type 0
Either L M ts a = L ts a ⊎ M ts a

-- the next token tells which
abbrev pub either_read : {A : Type 0} → List Class → (List Spot → Result (A × List Spot) (List Spot)) → (List Spot → Result (A × List Spot) (List Spot)) → List Spot → Result (A × List Spot) (List Spot)
either_read cs r q ts = if next_among cs ts then r ts else q ts

-- of two faults the one further on
abbrev pub further : {A : Type 0} → List Spot → List Spot → Result A (List Spot)
further e f = if nat_lt (length f) (length e) then Err f else Err e

-- the second reader, after a fault of the first
abbrev pub second_try : {A : Type 0} → List Spot → Result A (List Spot) → Result A (List Spot)
second_try e (Ok x) = Ok x
second_try e (Err f) = further e f

-- the first reader, and the second where it met a fault
abbrev pub first_try : {A : Type 0} → Result A (List Spot) → Result A (List Spot) → Result A (List Spot)
first_try (Ok x) second = Ok x
first_try (Err e) second = second_try e second

-- the one that reads; of two faults the one further on
abbrev pub longest_read : {A : Type 0} → (List Spot → Result (A × List Spot) (List Spot)) → (List Spot → Result (A × List Spot) (List Spot)) → List Spot → Result (A × List Spot) (List Spot)
longest_read r q ts = first_try (r ts) (q ts)

-- so many times x, each with the value of the one before it, and only where the guard lets it
abbrev pub Times : {S : Type 0} → (S → Bool) → (S → List Spot → S → Type 0) → ℕ → S → List Spot → S → Type 0
Times may L zero s ts e = (ts ≡ []) × (e ≡ s)
Times may L (suc n) s ts e = (may s ≡ true) × Then (L s) (λ m. Times may L n m) ts e

-- { x }
abbrev pub Many : {S : Type 0} → (S → Bool) → (S → List Spot → S → Type 0) → S → List Spot → S → Type 0
Many may L s ts e = (n : ℕ) × Times may L n s ts e

-- the next token tells whether one more follows
unfoldable pub many_in : {S : Type 0} → ℕ → (S → Bool) → List Class → (S → List Spot → Result (S × List Spot) (List Spot)) → S → List Spot → Result (S × List Spot) (List Spot)
many_in zero may cs r s ts = Err ts
many_in (suc n) may cs r s ts = if may s && next_among cs ts then (r s ts >>= λ x. many_in n may cs r x.0 x.1) else Ok (s, ts)

-- a turn for each token is enough
abbrev pub many_read : {S : Type 0} → (S → Bool) → List Class → (S → List Spot → Result (S × List Spot) (List Spot)) → S → List Spot → Result (S × List Spot) (List Spot)
many_read may cs r s ts = many_in (suc (length ts)) may cs r s ts

-- ---- rules: a form with its reader

-- a form, and the reader that reads it
pub record Rule (A : Type 0) : Type 1 where
  pub form : List Spot → A → Type 0
  pub read : List Spot → Result (A × List Spot) (List Spot)

-- one token
abbrev pub token : {A : Type 0} → (Spot → Option A) → Rule A
token p = record { form = One p; read = one p }

-- a rule after a rule, which may speak of the value of the first
infixr 5 ◌then◌
abbrev pub ◌then◌ : {A B : Type 0} → Rule A → (A → Rule B) → Rule B
r then k = record { form = Then r.form (λ a. (k a).form); read = λ ts. r.read ts >>= λ x. (k x.0).read x.1 }

-- nothing, which gives a value
abbrev pub gives : {A : Type 0} → A → Rule A
gives a = record { form = Gives a; read = λ ts. Ok (a, ts) }

-- [x], which begins with a token of these classes
abbrev pub maybe : {A : Type 0} → List Class → Rule A → Rule (Option A)
maybe cs r = record { form = Maybe r.form; read = maybe_read cs r.read }

-- a | b, of which the first begins with a token of these classes
abbrev pub either : {A : Type 0} → List Class → Rule A → Rule A → Rule A
either cs r q = record { form = Either r.form q.form; read = either_read cs r.read q.read }

-- a | b, of which the tokens after tell which is meant
abbrev pub longest : {A : Type 0} → Rule A → Rule A → Rule A
longest r q = record { form = Either r.form q.form; read = longest_read r.read q.read }

-- { x }, each of which begins with a token of these classes
abbrev pub many : {S : Type 0} → (S → Bool) → List Class → (S → Rule S) → S → Rule S
many may cs r s = record { form = Many may (λ m. (r m).form) s; read = many_read may cs (λ m. (r m).read) s }

-- as many as there are
abbrev pub always : {S : Type 0} → S → Bool
always s = true

-- one more after those that there are
abbrev pub item : {A : Type 0} → Rule A → List A → Rule (List A)
item r all = r then λ a. gives (all ++ a ∷ [])

-- the rule is read exactly
abbrev pub IsExact : {A : Type 0} → Rule A → (A → List Class) → Type 0
IsExact r on = Exact r.form r.read on

-- a fault says how many bytes are left; out of memory may come at any time
abbrev pub Fails : {Y : Type 0} → ReadError → Result Y (List Spot) → Type 0
Fails errors.Memory read = Unit {0}
Fails (errors.Fault left) read = IsErrAnd read (λ rest. left ≡ left_of rest)

-- what a function over bytes returned, seen by view, is what reading the tokens gives, unless memory ran out
abbrev pub ReadsAs : {X Y : Type 0} → (X → Y) → Result X ReadError → Result Y (List Spot) → Type 0
ReadsAs view (Ok x) read = read ≡ Ok (view x)
ReadsAs view (Err e) read = Fails e read
