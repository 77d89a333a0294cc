use Rattle.std.proofs.Common.{◌≡◌, ◌<◌, ◌++◌, List, ℕ, length, append-nil, get_or, ap, subst, sym, ◌∙◌, refl, arith}
use Rattle.rmt_values.specs.declared.value.Value.{Value}
use Rattle.rmt_columns.specs.RowsByColumn.{row_at}
use Rattle.rmt_block.specs.Blocks.{RowsFit, head_bytes}
use Rattle.rmt_block.proofs.BlockLemmas.{block_bytes-all}
use Rattle.rmt_block.proofs.BytesLemmas.{All-is_value-row, out-more, row-there}
use Rattle.rmt_block.proofs.spelling.bytes.Goals as goal

pub written-init : goal.written-init
written-init c =
    c.in_ok-push_head.ensures
    ∙ (ap (λ (l : List ℕ). l ++ head_bytes c.kinds.result.now c.len.result) c.new-out.ensures.items
    ∙ (ap (λ ks. head_bytes ks c.len.result) c.kinds.ensures.value
    ∙ (ap (head_bytes c.args.block.now.kinds) (c.len.ensures.count ∙ ap length c.rows-rows.ensures.value)
    ∙ sym (append-nil (head_bytes c.args.block.now.kinds (length c.args.block.now.rows))))))

pub push_row-requires : goal.push_row-requires
push_row-requires c =
    All-is_value-row c.args.block.now.kinds c.rows-rows.result.now.rows c.columns-columns.result.now c.written.i
    (subst (RowsFit c.args.block.now.kinds) (sym c.rows-rows.ensures.value) c.rows-rows.ensures.sound.rows.fit)
    c.columns-columns.ensures.rows c.columns-columns.ensures.long (omega (arith, c.written-test.true, c.len-i-end.ensures))

pub written-preserved : goal.written-preserved
written-preserved c =
    let inside : c.written.i < length c.rows-rows.result.now.rows = omega (arith, c.written-test.true, c.len-i-end.ensures) in
    let row = row_at c.written.i c.columns-columns.result.now in
    let there = row-there c.rows-rows.result.now.rows c.columns-columns.result.now c.written.i c.columns-columns.ensures.rows c.columns-columns.ensures.long inside in
    let same = c.rows-rows.ensures.value in
    out-more c.written.out.items c.push_row.new.out.items (head_bytes c.args.block.now.kinds (length c.args.block.now.rows)) c.args.block.now.rows c.written.i row
    (subst (λ (rows : List (List Value)). c.written.i < length rows) same inside) (subst (λ (rows : List (List Value)). row ≡ get_or rows c.written.i row) same there)
    c.in_ok-push_row.ensures.ok c.written.invariant

pub returns : goal.returns
returns c =
    c.written.invariant
    ∙ block_bytes-all c.args.block.now.kinds c.args.block.now.rows c.args.block.now.rows c.written.i refl
    (omega (arith, c.written-test.false, c.len-i-end.ensures, ap length c.rows-rows.ensures.value))
