-- The forms that the words of a command have: `play`, and `storm` with a seed and how many turns, each with a number of workers or
-- without.
-- No public source: this program's own.
use Rattle.std.specs.Prelude.{ℕ, Bool, ◌<◌, ◌≤◌, ◌&&◌, nat_le, nat_lt, cond, List, [], ◌∷◌, codes, length, take, drop, IfSome}
use Rattle.std.specs.Str.{all_ascii_digits, bytes_eq}
use Rattle.std.specs.Str.Parse.{digits_value}
use Rattle.std.specs.declared.option.Option.{Option}
use Rattle.std.specs.declared.option.Option.TheVariants.{Some, None}
use Rattle.rmt_play.specs.declared.form.Form.{Form}
use Rattle.rmt_play.specs.declared.task.Task.TheVariants.{Play, Storm}

-- 1 to 10 decimal digits
abbrev pub is_number : List ℕ → Bool
is_number word = nat_lt 0 (length word) && (nat_le (length word) 10 && all_ascii_digits word)

-- the number that they write, where it lies in a range
abbrev pub number_in : ℕ → ℕ → List ℕ → Option ℕ
number_in least most word =
    cond (is_number word && (nat_le least (digits_value 10 word) && nat_le (digits_value 10 word) most)) (Some (digits_value 10 word)) None

-- ---- workers

-- a number of workers
abbrev pub count_in : List ℕ → Option ℕ
count_in word = number_in 1 8 word

-- a word that begins with `--workers=`
abbrev pub is_joined : List ℕ → Bool
is_joined word = bytes_eq (take 10 word) (codes "--workers=")

-- the number that comes after it
abbrev pub count_after : List ℕ → Option ℕ
count_after word = cond (is_joined word) (count_in (drop 10 word)) None

-- the word `--workers`
abbrev pub is_name : List ℕ → Bool
is_name word = bytes_eq word (codes "--workers")

-- what is asked for with so many workers, where there is a number
abbrev pub among : Option ℕ → (Option ℕ → Option Form) → Option Form
among None asks = None
among (Some count) asks = asks (Some count)

-- ---- what is asked for

-- a play
abbrev pub plays_with : Option ℕ → Option Form
plays_with workers = Some (record { task = Play; workers = workers })

-- a workload of so many turns that a generator draws from a seed
abbrev pub storms_with : Option ℕ → Option ℕ → Option ℕ → Option Form
storms_with (Some seed) (Some turns) workers = Some (record { task = Storm seed turns; workers = workers })
storms_with seed turns workers = None

-- one with the seed and the turns that two words write
abbrev pub storm_of : List ℕ → List ℕ → Option ℕ → Option Form
storm_of seed turns workers = storms_with (number_in 0 2147483647 seed) (number_in 1 20000 turns) workers

-- ---- the forms

-- what comes after `play`: nothing, `--workers=K` or `--workers K`
abbrev pub play_in : List (List ℕ) → Option Form
play_in [] = plays_with None
play_in (word ∷ []) = among (count_after word) plays_with
play_in (name ∷ count ∷ []) = cond (is_name name) (among (count_in count) plays_with) None
play_in _ = None

-- what comes after `storm`: the seed and how many turns; `--workers=K` or `--workers K` stands before them, between them or after them
abbrev pub storm_in : List (List ℕ) → Option Form
storm_in (seed ∷ turns ∷ []) = storm_of seed turns None
storm_in (a ∷ b ∷ c ∷ []) =
    cond (is_joined a) (among (count_after a) (storm_of b c)) (cond (is_joined b) (among (count_after b) (storm_of a c)) (among (count_after c) (storm_of a b)))
storm_in (a ∷ b ∷ c ∷ d ∷ []) =
    cond (is_name a) (among (count_in b) (storm_of c d)) (cond (is_name b) (among (count_in c) (storm_of a d)) (cond (is_name c) (among (count_in d) (storm_of a b)) None))
storm_in _ = None

-- the forms
abbrev pub form_in : List (List ℕ) → Option Form
form_in [] = None
form_in (word ∷ words) = cond (bytes_eq word (codes "play")) (play_in words) (cond (bytes_eq word (codes "storm")) (storm_in words) None)

-- ---- what only private functions cite

-- there are 1 to 8 workers, or none
abbrev pub AreFew : Option ℕ → Type 0
AreFew workers = IfSome workers (λ count. (0 < count) × (count ≤ 8))
