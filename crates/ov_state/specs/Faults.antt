-- Faults of graphs and of questions, as faults of what is prepared.
use Rattle.ov_base.specs.declared.refusal.Refusal.TheVariants.{NodesFull as Full}
use Rattle.ov_graph.specs.declared.cover.GraphRefusal.{GraphRefusal}
use Rattle.ov_graph.specs.declared.cover.GraphRefusal.TheVariants.{NodesFull, Memory as GraphMemory}
use Rattle.ov_state.specs.declared.fault.ChainFault.{ChainFault}
use Rattle.ov_state.specs.declared.fault.ChainFault.TheVariants.{Refused as NoChain}
use Rattle.ov_state.specs.declared.fault.ChainFault.TheVariants.{Memory as NoChainMemory}
use Rattle.ov_state.specs.declared.fault.PrepareFault.{PrepareFault}
use Rattle.ov_state.specs.declared.fault.PrepareFault.TheVariants.{Refused, Memory}

-- a graph that is full refuses an update
abbrev pub fault_of : GraphRefusal → PrepareFault
fault_of NodesFull = Refused Full
fault_of GraphMemory = Memory

-- a graph that is full refuses a question about chains
abbrev pub chain_fault_of : GraphRefusal → ChainFault
chain_fault_of NodesFull = NoChain Full
chain_fault_of GraphMemory = NoChainMemory

-- a question and its update are refused for the same, or there is no memory for either
abbrev pub prepare_fault_of : ChainFault → PrepareFault
prepare_fault_of (NoChain why) = Refused why
prepare_fault_of NoChainMemory = Memory
