-- Why a schedule is not played on, where its trace cannot be written.
use Rattle.gr_outside.specs.declared.faults.FileFault.{FileFault}
use Rattle.gr_outside.specs.declared.faults.FileFault.TheVariants as fault
use Rattle.gr_play.specs.declared.stop.Stop.{Stop}
use Rattle.gr_play.specs.declared.stop.Stop.TheVariants as stop

abbrev pub stop_of : FileFault → Stop
stop_of fault.Failed = stop.TraceFault
stop_of fault.OutOfMemory = stop.NoMemory
