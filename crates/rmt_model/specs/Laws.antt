-- The laws of lawful logs.
use Rattle.std.specs.Prelude.{◌≡◌, ◌≢◌, ℕ, ◌<◌, ◌⊎◌, List, [], ◌∷◌}
use Rattle.std.specs.declared.option.Option.{Option}
use Rattle.std.specs.declared.option.Option.TheVariants.{Some}
use Rattle.rmt_names.specs.Names.{Name, Covers, Overlap, Spans, data_version}
use Rattle.rmt_values.specs.Rows.{Shape}
use Rattle.rmt_model.specs.Content.{Blocks, content, snapshot, rows}
use Rattle.rmt_entries.specs.declared.entry.Entry.{Entry}
use Rattle.rmt_entries.specs.declared.entry.Entry.TheVariants.{Get}
use Rattle.rmt_values.specs.Order.{SameBag}
use Rattle.rmt_model.specs.Words.{Has, Pairwise}
use Rattle.rmt_model.specs.Live.{Before, live, made}
use Rattle.rmt_model.specs.Lawful.{AboveDrops, IsMutationWith}

-- live names stand in order and share no number
abbrev pub LiveApart : List Entry → Type 0
LiveApart log = Pairwise Before (live log)

-- the log has a block with this number in p
pub record Committed (log : List Entry) (p : Option ℕ) (n : ℕ) : Type 0 where
  pub digest : List ℕ
  pub source : ℕ
  pub need : ℕ
  pub entry : Has log (Get p n digest source need)

-- the one live name whose range has the number
pub record LiesInOne (log : List Entry) (p : Option ℕ) (n : ℕ) : Type 0 where
  pub name : Name
  pub is_live : Has (live log) name
  pub spans : Spans name p n
  pub only : (a : Name) → Has (live log) a → Spans a p n → a ≡ name

-- each block above the drops of its partition lies in exactly one live name
abbrev pub BlocksLiveOnce : List Entry → Type 0
BlocksLiveOnce log = (p : Option ℕ) (n : ℕ) → Committed log p n → AboveDrops log p n → LiesInOne log p n

-- of two made names that overlap the later covers the earlier, and they differ
pub record Supersedes (later earlier : Name) : Type 0 where
  pub covers : Overlap later earlier → Covers later earlier
  pub differ : later ≢ earlier

-- of two made names that overlap, the later covers the earlier, and they differ
abbrev pub LaterCovers : List Entry → Type 0
LaterCovers log = Pairwise Supersedes (made log)

-- a made name that covers a live one is that one
abbrev pub CoversNoneButItself : List Entry → Type 0
CoversNoneButItself log = (a b : Name) → Has (made log) a → Has (live log) b → Covers a b → a ≡ b

-- the log has a mutation with this number in p
abbrev pub MutatedAt : List Entry → Option ℕ → ℕ → Type 0
MutatedAt [] p m = ⊥
MutatedAt (e ∷ log) p m = IsMutationWith (Some e) p m ⊎ MutatedAt log p m

-- each mutation that is pending for a made name has a number above the name's max
abbrev pub PendingAbove : List Entry → Type 0
PendingAbove log = (a : Name) → Has (made log) a → (m : ℕ) → MutatedAt log a.partition m → data_version a < m → a.max < m

-- one more entry leaves the content of what was made
abbrev pub ContentStays : Shape → List Entry → Entry → Type 0
ContentStays schema log e = (blocks : Blocks) (a : Name) → Has (made log) a → content schema (e ∷ log) blocks a ≡ content schema log blocks a

-- the live parts, read with what is pending, are the plain rows
abbrev pub ReadsPlainRows : Shape → List Entry → Type 0
ReadsPlainRows schema log = (blocks : Blocks) → SameBag (snapshot schema log blocks (live log)) (rows log blocks)
