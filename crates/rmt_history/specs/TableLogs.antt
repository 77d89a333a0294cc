-- A table's whole log, which copies of it follow.
use Rattle.std.specs.Prelude.{◌≡◌, ℕ, ◌+◌, ◌≤◌, Bool, true, cond, length, List, [], ◌∷◌, ◌++◌, take, slice_get, option_to_list}
use Rattle.std.specs.declared.option.Option.{Option}
use Rattle.std.specs.declared.option.Option.TheVariants.{Some, None}
use Rattle.rmt_row.specs.Token.{Token, IsOf}
use Rattle.rmt_entries.specs.declared.entry.Entry.{Entry}
use Rattle.rmt_model.specs.Lawful.{is_mutation}
use Rattle.rmt_history.specs.Copies.{History, IsLogOf, ArePrefixes, AreNumbered, mutation_tokens}
use Rattle.rmt_history.specs.Mutations.{last_list}

-- the tokens of a log, the oldest first, and how many more there is room for
pub record LoggedTokens : Type 0 where
  pub tokens : List (Token Entry)
  pub room : ℕ

-- each token is of this cell row
abbrev pub AreOf : List ℕ → List (Token Entry) → Type 0
AreOf row tokens = (i : ℕ) (t : Token Entry) → slice_get tokens i ≡ Some t → IsOf row t

-- the copy and these tokens are of one row
abbrev pub HaveRowOf : History → List (Token Entry) → Type 0
HaveRowOf copy tokens = (row : List ℕ) × IsLogOf row copy × AreOf row tokens

-- a copy with the next entry of a log, and with its cell
pub record Follows (old : History) (log : List (Token Entry)) (new : History) : Type 0 where
  pub next : Token Entry
  pub there : slice_get log (length old.log) ≡ Some next
  pub is : new ≡ record old { log = next.value ∷ old.log; cells = old.cells ++ next.cell ∷ [] }

-- whatever row the copy and the tokens are of, what comes of the copy is of it
abbrev pub KeepsRow : History → List (Token Entry) → History → Type 0
KeepsRow old tokens new = (row : List ℕ) → IsLogOf row old → AreOf row tokens → IsLogOf row new

-- ---- what only private clauses cite

-- a list for each of the first of these elements, which has all up to it; where none is missing, for each of them
pub record AreShared {A : Type 0} (lists : List (List A)) (all : List A) (is_whole : Bool) : Type 0 where
  pub within : length lists ≤ length all
  pub whole : is_whole ≡ true → length lists ≡ length all
  pub upto : (k : ℕ) (xs : List A) → slice_get lists k ≡ Some xs → xs ≡ take (k + 1) all

-- tokens of a log, each at its place, with lists of its mutations, of which none or the last are missing
pub record IsTableLog (tokens : List (Token Entry)) (lists : List (List (Token Entry))) (is_whole : Bool) : Type 0 where
  pub numbered : AreNumbered tokens
  pub shared : AreShared lists (mutation_tokens tokens) is_whole

-- the tokens have the next one after others, for whose mutations these are the lists
pub record GoOnWith (tokens : List (Token Entry)) (lists : List (List (Token Entry))) (next : Token Entry) : Type 0 where
  pub before : List (Token Entry)
  pub after : List (Token Entry)
  pub is : tokens ≡ (before ++ next ∷ []) ++ after
  pub mutating : ArePrefixes lists (mutation_tokens before)

-- the list of the mutations up to the next token, where that is of one and those before it have these lists
abbrev pub list_with : List (List (Token Entry)) → Token Entry → Option (List (Token Entry))
list_with lists next = cond (is_mutation next.value) (Some (last_list lists ++ next ∷ [])) None

-- the lists with that one
abbrev pub lists_with : List (List (Token Entry)) → Token Entry → List (List (Token Entry))
lists_with lists next = lists ++ option_to_list (list_with lists next)
