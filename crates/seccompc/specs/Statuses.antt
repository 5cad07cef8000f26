-- What the program's statuses say of the words that it is called with.
use Rattle.seccompc.specs.Faults.{NamesArchitecture}
use Rattle.seccompc.specs.Probe.{IsProbeFaultless}
use Rattle.seccompc.specs.declared.words.Command.{Command}
use Rattle.seccompc.specs.declared.words.Command.TheVariants.{Probe, List as Listing, Run}

-- The command's own words have no fault: they name an architecture, and a probe's ask for a filter that can be compiled.
abbrev pub HasNoFault : Command → Type 0
HasNoFault (Probe arch nr index value) = IsProbeFaultless arch.now nr index
HasNoFault (Listing arch) = NamesArchitecture arch.now
HasNoFault (Run arch file name) = NamesArchitecture arch.now
