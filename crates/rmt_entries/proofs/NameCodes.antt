-- The bytes of partitions, numbers and names.
use Rattle.std.proofs.Common.{◌≡◌, ℕ, ◌^◌, ◌<◌, ◌≤◌, true, IfSome, refl, arith, leb}
use Rattle.rmt_names.specs.Names.{Name, IsName}
use Rattle.rmt_bytes.specs.Decoding.{mapped}
use Rattle.rmt_bytes.proofs.Codes.{Codes}
use Rattle.rmt_bytes.proofs.CodeLemmas.{both, shaped, tested}
use Rattle.rmt_bytes.proofs.NumberCodes.{number32}
use Rattle.rmt_bytes.proofs.ValueCodes.{partition_code}
use Rattle.rmt_entries.specs.EntryBytes.{name_bytes, block_number_bytes, BlockNumberInRange}
use Rattle.rmt_entries.specs.EntryDecoding.{decode_block_number, decode_fields, name_of, decode_name}

pub block_number_code : Codes (λ x. block_number_bytes x.0 x.1) BlockNumberInRange decode_block_number
block_number_code = both partition_code number32

record FieldsFit (a : Name) : Type 0 where
  pub partition : IfSome a.partition (λ p. p < 2 ^ 64)
  pub min : a.min < 2 ^ 32
  pub max : a.max < 2 ^ 32
  pub level : a.level < 2 ^ 32
  pub mutation : a.mutation < 2 ^ 32

fields_code : Codes name_bytes FieldsFit (λ bytes. mapped name_of (decode_fields bytes))
fields_code = shaped name_bytes FieldsFit name_of (λ a. ((((a.partition, a.min), a.max), a.level), a.mutation))
    (both (both (both (both partition_code number32) number32) number32) number32)
    (λ a. refl) (λ a. refl) (λ x. refl)
    (λ a fits. ((((fits.partition, fits.min), fits.max), fits.level), fits.mutation))
    (λ x fits. record { partition = fits.0.0.0.0; min = fits.0.0.0.1; max = fits.0.0.1; level = fits.0.1; mutation = fits.1 })

leb-of : (m n : ℕ) → m ≤ n → leb m n ≡ true
leb-of m n h = grind arith

le-of : (m n : ℕ) → leb m n ≡ true → m ≤ n
le-of m n h = grind arith

pub name_code : Codes name_bytes IsName decode_name
unfolding decode_name
name_code =
    let code = tested (λ a. leb a.min a.max) fields_code in
    record {
      again = λ a rest fits. code.again a rest (record { partition = fits.partition; min = omega (arith, fits.ordered, fits.max); max = fits.max; level = fits.level; mutation = fits.mutation }, leb-of a.min a.max fits.ordered);
      takes = λ all a rest are e.
          let t = code.takes all a rest are e in
          record { parts = t.parts; fits = record { ordered = le-of a.min a.max t.fits.1; partition = t.fits.0.partition; max = t.fits.0.max; level = t.fits.0.level; mutation = t.fits.0.mutation }; rest_bytes = t.rest_bytes };
    }
