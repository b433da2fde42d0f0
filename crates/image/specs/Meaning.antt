-- What an image means: its instructions, and the place of its handler.
use Rattle.std.specs.Prelude.{ℕ, List}
use Rattle.instruction.specs.declared.instructions.Instruction.{Instruction}
use Rattle.image.specs.declared.images.Image.{Image}
use Rattle.fields.specs.declared.rows.Elements.{Elements}
use Rattle.fields.specs.Rows.{left_of}
use Rattle.image.specs.Reading.{Contents, program_of}

-- the instructions, place 0 first
abbrev pub program : Image → List Instruction
program p = program_of p.records.now

abbrev pub version_in : Image → ℕ
version_in p = p.version

-- the place at which a trap goes on
abbrev pub handler_in : Image → ℕ
handler_in p = p.handler

-- an image and what follows it, as reading tells them
abbrev pub told : Image → List ℕ → Contents
told p rest = record { version = version_in p; handler = handler_in p; program = program p; rest = rest }

-- the instructions that an iterator has still to give
abbrev pub left : Elements Image → List Instruction
left = left_of program
