use Rattle.std.specs.Prelude.{ℕ, List, codes}
use Rattle.elf32_reader.specs.declared.fault.ElfFault.{ElfFault}
use Rattle.elf32_reader.specs.declared.fault.ElfFault.TheVariants.{TooLarge, Truncated, NotElf, NotClass32, NotLittleEndian, BadVersion, NotExec, NotRiscV, BadFlags, BadHeaderSize, TooManySegments, TableOutside, Interpreter, SegmentSizes, SegmentOutsideFile, SegmentOutsideWindow, WritableCode, SegmentOrder, TooManyPages, BadEntry, OutOfMemory}

-- the number of a fault
abbrev pub number_of : ElfFault → ℕ
number_of TooLarge = 1
number_of Truncated = 2
number_of NotElf = 3
number_of NotClass32 = 4
number_of NotLittleEndian = 5
number_of BadVersion = 6
number_of NotExec = 7
number_of NotRiscV = 8
number_of BadFlags = 9
number_of BadHeaderSize = 10
number_of TooManySegments = 11
number_of TableOutside = 12
number_of Interpreter = 13
number_of SegmentSizes = 14
number_of SegmentOutsideFile = 15
number_of SegmentOutsideWindow = 16
number_of WritableCode = 17
number_of SegmentOrder = 18
number_of TooManyPages = 19
number_of BadEntry = 20
number_of OutOfMemory = 21

-- its name, in ASCII
abbrev pub name_of : ElfFault → List ℕ
name_of TooLarge = codes "TooLarge"
name_of Truncated = codes "Truncated"
name_of NotElf = codes "NotElf"
name_of NotClass32 = codes "NotClass32"
name_of NotLittleEndian = codes "NotLittleEndian"
name_of BadVersion = codes "BadVersion"
name_of NotExec = codes "NotExec"
name_of NotRiscV = codes "NotRiscV"
name_of BadFlags = codes "BadFlags"
name_of BadHeaderSize = codes "BadHeaderSize"
name_of TooManySegments = codes "TooManySegments"
name_of TableOutside = codes "TableOutside"
name_of Interpreter = codes "Interpreter"
name_of SegmentSizes = codes "SegmentSizes"
name_of SegmentOutsideFile = codes "SegmentOutsideFile"
name_of SegmentOutsideWindow = codes "SegmentOutsideWindow"
name_of WritableCode = codes "WritableCode"
name_of SegmentOrder = codes "SegmentOrder"
name_of TooManyPages = codes "TooManyPages"
name_of BadEntry = codes "BadEntry"
name_of OutOfMemory = codes "OutOfMemory"
