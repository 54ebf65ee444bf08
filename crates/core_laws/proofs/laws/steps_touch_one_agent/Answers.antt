use Rattle.core_laws.proofs.OneAgent.{other_tiles, processor_alone, router_alone, bank_alone}
use Rattle.core_laws.proofs.laws.steps_touch_one_agent.Goals as goal

pub returns : goal.returns
returns c = record { tiles = other_tiles; processor = processor_alone; router = router_alone; bank = bank_alone }
