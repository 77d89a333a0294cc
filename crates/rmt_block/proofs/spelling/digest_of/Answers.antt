use Rattle.std.proofs.Common.{◌<◌, ◌++◌, List, ℕ, length, ap, subst, ◌∙◌, refl, arith}
use Rattle.std.specs.List.{All}
use Rattle.sha2.specs.Sha256.{sha256}
use Rattle.sha2.specs.Hashers.{Holds256}
use Rattle.rmt_values.specs.declared.value.Value.{Value}
use Rattle.rmt_bytes.specs.Encoding.{IsInRange}
use Rattle.rmt_columns.specs.RowsByColumn.{row_at}
use Rattle.rmt_block.specs.Blocks.{head_bytes}
use Rattle.rmt_block.proofs.BlockLemmas.{All-take-at, block_bytes-all}
use Rattle.rmt_block.proofs.BytesLemmas.{All-is_value-row, hashed-given, hashed-more, row-there}
use Rattle.rmt_block.proofs.spelling.digest_of.Goals as goal

pub push_row-requires : goal.push_row-requires
push_row-requires c =
    All-is_value-row c.args.kinds.now c.args.rows.now.rows c.columns-columns.result.now c.rows.i c.requires.fit c.columns-columns.ensures.rows c.columns-columns.ensures.long
    (omega (arith, c.rows-test.true, c.len-i-end.ensures))

pub rows-preserved-then-len-lt-HASHED_BYTES : goal.rows-preserved-then-len-lt-HASHED_BYTES
rows-preserved-then-len-lt-HASHED_BYTES c =
    let rows = c.args.rows.now.rows in
    let inside : c.rows.i < length rows = omega (arith, c.rows-test.true, c.len-i-end.ensures) in
    let row = row_at c.rows.i c.columns-columns.result.now in
    let there = row-there rows c.columns-columns.result.now c.rows.i c.columns-columns.ensures.rows c.columns-columns.ensures.long inside in (
      hashed-more c.rows.hasher c.rows.buffer.items c.push_row.new.out.items (head_bytes c.args.kinds.now (length rows)) rows c.rows.i row inside there
          c.in_ok-push_row.ensures.ok c.rows.invariant.0,
      All-take-at (λ (row : List Value). All IsInRange row) rows c.rows.i row inside there c.rows.invariant.1 c.in_ok-push_row.ensures.in_range,
    )

pub rows-preserved : goal.rows-preserved
rows-preserved c =
    let rows = c.args.rows.now.rows in
    let inside : c.rows.i < length rows = omega (arith, c.rows-test.true, c.len-i-end.ensures) in
    let row = row_at c.rows.i c.columns-columns.result.now in
    let there = row-there rows c.columns-columns.result.now c.rows.i c.columns-columns.ensures.rows c.columns-columns.ensures.long inside in (
      hashed-given c.rows.hasher c.update.new.self c.push_row.new.out.items c.clear.new.self.items _
          (subst (λ (l : List ℕ). (m : List ℕ) → Holds256 c.rows.hasher m → Holds256 c.update.new.self (m ++ l)) c.as_slice.ensures.value c.update.ensures)
          c.clear.ensures.items
          (hashed-more c.rows.hasher c.rows.buffer.items c.push_row.new.out.items (head_bytes c.args.kinds.now (length rows)) rows c.rows.i row inside there
          c.in_ok-push_row.ensures.ok c.rows.invariant.0),
      All-take-at (λ (row : List Value). All IsInRange row) rows c.rows.i row inside there c.rows.invariant.1 c.in_ok-push_row.ensures.in_range,
    )

pub returns-clause-ok : goal.returns-clause-ok
returns-clause-ok c =
    let hashed = c.rows.invariant.0 in
    c.finalize.ensures (hashed.given ++ c.rows.buffer.items)
    (subst (λ (l : List ℕ). Holds256 c.update-2.new.self (hashed.given ++ l)) c.as_slice-2.ensures.value (c.update-2.ensures hashed.given hashed.holds))
    ∙ ap sha256 (hashed.whole ∙ block_bytes-all c.args.kinds.now c.args.rows.now.rows c.args.rows.now.rows c.rows.i refl (omega (arith, c.rows-test.false, c.len-i-end.ensures)))
