-- One table without entries.
use Rattle.std.proofs.Common.{◌≡◌, List, [], subst, sym}
use Rattle.rmt_entries.specs.declared.entry.Entry.{Entry}
use Rattle.rmt_events.specs.Views.{Block}
use Rattle.rmt_table_model.specs.Held.{Held}
use Rattle.rmt_clients.specs.Clients.{AreAccepted}
use Rattle.rmt_shared.specs.SharedTables.{HasBlocks}

-- a table without entries has no blocks
pub no-blocks : (O : Block → Type 0) (h : Held) → h.log ≡ [] → h.values ≡ 0 → HasBlocks O h
no-blocks O h log values = record { blocks = []; accepted = subst (λ (l : List Entry). AreAccepted O l []) (sym log) tt; counted = values }
