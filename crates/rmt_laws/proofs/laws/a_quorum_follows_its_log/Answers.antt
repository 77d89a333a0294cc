use Rattle.rmt_model.proofs.QuorumLemmas.{quorum-block, quorum-drop, quorum-note}
use Rattle.rmt_laws.proofs.laws.a_quorum_follows_its_log.Goals as goal

pub returns-clause-block : goal.returns-clause-block
returns-clause-block c = λ schema log p n digest source need q l none h. quorum-block schema p n digest source need log q l none h

pub returns-clause-drop : goal.returns-clause-drop
returns-clause-drop c = λ schema log p n q l h. quorum-drop schema p n log l q h

pub returns-clause-noted : goal.returns-clause-noted
returns-clause-noted c = λ log replica q h. quorum-note log replica q h
