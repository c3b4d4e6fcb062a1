-- A fault as a run sees it.
use Rattle.rel_files.specs.declared.check_fault.PageFault.{PageFault}
use Rattle.rel_files.specs.declared.check_fault.PageFault.TheVariants as page
use Rattle.cmd_answers.specs.declared.fault.RunFault.{RunFault}
use Rattle.cmd_answers.specs.declared.fault.RunFault.TheVariants.{NoMemory, ReadFault}

-- the fault of reading pages, as that of a run
abbrev pub run_fault_of : PageFault → RunFault
run_fault_of page.ReadFault = ReadFault
run_fault_of page.NoMemory = NoMemory
