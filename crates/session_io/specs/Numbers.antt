-- The numbers of the faults.
--     serve_number    the number of a server's fault
--     hex_number      the number of a fault of a session in hexadecimal
use Rattle.std.specs.Prelude.{ℕ}
use Rattle.session_io.specs.declared.fault.HexFault.{HexFault}
use Rattle.session_io.specs.declared.fault.HexFault.TheVariants as hex_fault
use Rattle.session_io.specs.declared.fault.ServeFault.{ServeFault}
use Rattle.session_io.specs.declared.fault.ServeFault.TheVariants as serve_fault

-- the number of a server's fault
abbrev pub serve_number : ServeFault → ℕ
serve_number serve_fault.Read = 1
serve_number serve_fault.Write = 2
serve_number serve_fault.Memory = 3
serve_number serve_fault.Exhausted = 4
serve_number serve_fault.Listen = 5
serve_number serve_fault.Journal = 6

-- the number of a fault of a session in hexadecimal
abbrev pub hex_number : HexFault → ℕ
hex_number hex_fault.Digits = 1
hex_number hex_fault.TooLong = 2
hex_number hex_fault.Read = 3
hex_number hex_fault.Write = 4
hex_number hex_fault.Memory = 5
