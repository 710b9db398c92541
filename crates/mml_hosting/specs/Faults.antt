-- Why a house fails at its last line.
use Rattle.mml_serving.specs.declared.serving.ServeFault.{ServeFault}
use Rattle.mml_serving.specs.declared.serving.ServeFault.TheVariants as why
use Rattle.mml_hosting.specs.declared.hosted.HostFault.{HostFault}
use Rattle.mml_hosting.specs.declared.hosted.HostFault.TheVariants as fault

-- the host's error for the reason why its last line wasn't written
abbrev pub fault_of : ServeFault → HostFault
fault_of why.Memory = fault.Memory
fault_of why.Halted = fault.Halted
fault_of _ = fault.Write
