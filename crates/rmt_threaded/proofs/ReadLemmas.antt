-- What a client reads of a table: digests of its parts, and answers.
use Rattle.std.proofs.Common.{◌≡◌, ◌∙◌, ℕ, List, [], ◌∷◌, length, map, refl, sym, ap, arith}
use Rattle.std.specs.List.{All}
use Rattle.sha2.specs.Sha256.{sha256}
use Rattle.rmt_values.specs.Rows.{Shape}
use Rattle.rmt_names.specs.Names.{Name}
use Rattle.rmt_entries.specs.declared.entry.Entry.{Entry}
use Rattle.rmt_row.specs.Token.{Token}
use Rattle.rmt_model.specs.Lawful.{Lawful}
use Rattle.rmt_history.specs.Copies.{History}
use Rattle.rmt_history.specs.Mutations.{HasOrder, mutations_below}
use Rattle.rmt_changes.specs.Changes.{entries_of}
use Rattle.rmt_live_names.proofs.MutationTokens.{all-below, tokens-fit}
use Rattle.rmt_granules.specs.Granules.{PartView}
use Rattle.rmt_format.specs.PartBytes.{part_bytes}
use Rattle.rmt_partset.specs.Snapshots.{NamedData, names_in, data_in}
use Rattle.rmt_events.specs.Views.{Block}
use Rattle.rmt_statement_model.specs.TableStates.{TableState, data_at}
use Rattle.rmt_statement_model.specs.ActOutcomes.{ReadsParts}
use Rattle.rmt_acts.specs.Checking.{AreDigests, digest_in}
use Rattle.rmt_pass.specs.Passes.{PassView, TakesStep, client_at}
use Rattle.rmt_threaded.specs.ThreadedTables.{AreMutations}

-- the digests of parts whose data is that of their names
each-digest : (schema : Shape) (of : Name → PartView) (parts : List NamedData) → data_in parts ≡ map of (names_in parts) → map {B = Name × List ℕ} (λ part. (part.name, digest_in schema part)) parts ≡ map {B = Name × List ℕ} (λ a. (a, sha256 (part_bytes schema (of a)))) (names_in parts)
each-digest schema of [] e = refl
each-digest schema of (part ∷ parts) e =
    let first : part.rows ≡ of part.name = cc in
    let others : data_in parts ≡ map of (names_in parts) = cc in
    ap (λ (d : PartView). (part.name, sha256 (part_bytes schema d)) ∷ map {B = Name × List ℕ} (λ p. (p.name, digest_in schema p)) parts) first
    ∙ ap (λ (l : List (Name × List ℕ)). (part.name, sha256 (part_bytes schema (of part.name))) ∷ l) (each-digest schema of parts others)

digests-are : (schema : Shape) (t u : TableState) (r : ℕ) (read : List NamedData) (all : List (Name × List ℕ)) → schema ≡ t.schema → all ≡ map {B = Name × List ℕ} (λ part. (part.name, digest_in schema part)) read → ReadsParts r read t u → AreDigests t r all u
digests-are schema t u r read all e f s = record {
  names = names_in read;
  fair = s.reading.fair;
  are = f ∙ (ap (λ (c : Shape). map {B = Name × List ℕ} (λ part. (part.name, digest_in c part)) read) e ∙ each-digest t.schema (data_at t) read s.reading.holds);
  change = s.change;
}

-- parts that are read have their digests
pub digests-read : (Offered : ℕ → Block → Type 0) (p : PassView) (k r : ℕ) (q : PassView) (read parts : List NamedData) (schema : Shape) (all : List (Name × List ℕ)) → parts ≡ read → schema ≡ (client_at p k).schema → all ≡ map {B = Name × List ℕ} (λ part. (part.name, digest_in schema part)) parts
    → TakesStep Offered p k (ReadsParts r read) q → TakesStep Offered p k (λ t u. AreDigests t r all u) q
digests-read Offered p k r q read parts schema all w e f step = record {
  steps = λ clear t fits.
      let s = step.steps clear t fits in
      let same : schema ≡ s.at.schema = e ∙ (sym step.keeps.schema ∙ (s.comes.fits.knows.schema ∙ ap (λ (u : TableState). u.schema) s.comes.change.change)) in
      record {
        at = s.at;
        rests = s.rests;
        comes = record { after = s.comes.after; change = digests-are schema s.at s.comes.after r read all same (f ∙ ap (λ (ps : List NamedData). map {B = Name × List ℕ} (λ part. (part.name, digest_in schema part)) ps) w) s.comes.change; fits = s.comes.fits };
      };
  keeps = step.keeps;
  goes = step.goes;
}

-- ---- mutations

-- the tokens below the end of a copy are of all its mutations
pub mutations-are : (copy : History) (n : ℕ) (tokens : List (Token Entry)) → n ≡ length copy.log → Lawful copy.schema copy.log → entries_of tokens ≡ mutations_below copy.log n → All (λ token. HasOrder token.value) tokens → AreMutations copy tokens
mutations-are copy n tokens len lawful e ordered =
    let all = e ∙ (ap (mutations_below copy.log) len ∙ all-below copy.log) in
    record { entries = all; fit = tokens-fit copy.schema copy.log tokens lawful all; ordered = ordered }

-- where none are below its end, it has none
pub mutations-none : (copy : History) (n : ℕ) → n ≡ length copy.log → Lawful copy.schema copy.log → mutations_below copy.log n ≡ [] → AreMutations copy []
mutations-none copy n len lawful e = mutations-are copy n [] len lawful (sym e) (λ d i b. absurd (omega (arith, b)))
