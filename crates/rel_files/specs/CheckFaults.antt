-- A fault as a layer above sees it.
use Rattle.rel_files.specs.declared.check_fault.CheckFault.{CheckFault}
use Rattle.rel_files.specs.declared.check_fault.CheckFault.TheVariants.{NoMemory, ReadFault}
use Rattle.rel_files.specs.declared.check_fault.PageFault.{PageFault}
use Rattle.rel_files.specs.declared.check_fault.PageFault.TheVariants as page

-- the fault of reading pages, as that of judging files
abbrev pub check_fault_of : PageFault → CheckFault
check_fault_of page.ReadFault = ReadFault
check_fault_of page.NoMemory = NoMemory
