-- What the entries of a log leave of a row, where their commands are of a schema.
use Rattle.std.proofs.Common.{◌≡◌, ℕ, Bool, true, false, cond, List, [], ◌∷◌, refl, subst, ◌∙◌}
use Rattle.std.specs.Option.{option_and_then}
use Rattle.std.specs.declared.option.Option.{Option}
use Rattle.std.specs.declared.option.Option.TheVariants.{Some, None}
use Rattle.rmt_values.specs.declared.checked_mutation.CheckedMutation.{CheckedMutation}
use Rattle.rmt_values.specs.Rows.{Shape, fits, key_of}
use Rattle.rmt_values.specs.Commands.{applied, CommandFits}
use Rattle.rmt_entries.specs.declared.entry.Entry.{Entry}
use Rattle.rmt_entries.specs.declared.entry.Entry.TheVariants.{Get, Merge, Mutate, Mutation, DropRange}
use Rattle.rmt_model.specs.Words.{Each}
use Rattle.rmt_model.specs.Content.{Row, chosen, changed_by, changed}
use Rattle.rmt_changes.specs.Laws.{EntryFits, KeysStay, RowsStayFit}
use Rattle.rmt_changes.proofs.CommandLaws.{some-one, applied-key, applied-fits}

module _ (shape : Shape) (p : Option ℕ) (t : ℕ → Bool) (P : Row → Type 0) (keeps : (command : CheckedMutation) (r r' : Row) → CommandFits shape command → P r → applied command r ≡ Some r' → P r') where
  one-keeps : (e : Entry) (row row' : Row) → EntryFits shape e → P row → changed_by e p t row ≡ Some row' → P row'
  one-keeps (Mutation id numbers command) row row' f q h = go (chosen numbers p t) h
    where
      go : (b : Bool) → cond b (applied command row) (Some row) ≡ Some row' → P row'
      go true k = keeps command row row' f q k
      go false k = subst P (some-one row row' k) q
  one-keeps (Get x n digest source need) row row' f q h = subst P (some-one row row' h) q
  one-keeps (Merge new sources count) row row' f q h = subst P (some-one row row' h) q
  one-keeps (Mutate old new upto count mcount) row row' f q h = subst P (some-one row row' h) q
  one-keeps (DropRange x n) row row' f q h = subst P (some-one row row' h) q

  pub all-keep : (entries : List Entry) (row row' : Row) → Each (EntryFits shape) entries → P row → changed entries p t row ≡ Some row' → P row'
  all-keep [] row row' f q h = subst P (some-one row row' h) q
  all-keep (e ∷ es) row row' f q h = go (changed es p t row) h (λ mid k. all-keep es row mid f.1 q k)
    where
      go : (o : Option Row) → option_and_then (changed_by e p t) o ≡ Some row' → ((mid : Row) → o ≡ Some mid → P mid) → P row'
      go None k g = absurd (cc)
      go (Some mid) k g = one-keeps e mid row' f.0 (g mid refl) k

-- the key stays
pub keys-stay : KeysStay
keys-stay shape entries p t row row' f h =
    all-keep shape p t (λ r. key_of shape.key r ≡ key_of shape.key row) (λ command r r' c q k. applied-key shape command r r' c k ∙ q) entries row row' f refl h

-- a row that fits stays one
pub rows-stay-fit : RowsStayFit
rows-stay-fit shape entries p t row row' f q h =
    all-keep shape p t (λ r. fits shape.columns r ≡ true) (λ command r r' c q k. applied-fits shape command r r' c q k) entries row row' f q h
