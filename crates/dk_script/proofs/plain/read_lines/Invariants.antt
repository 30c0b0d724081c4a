-- The lines so far and those that the line that has begun goes on with are all lines.
use Rattle.std.proofs.Common.{◌≡◌, ◌++◌, drop}
use Rattle.dk_io.specs.Lines.{contents_after, line_contents}
use Rattle.dk_script.proofs.plain.read_lines.Given as goal

abbrev pub invariant-loop-byte : goal.invariant-loop-byte
invariant-loop-byte l = l.lines.items ++ contents_after l.begun.items (drop l.byte-index l.script) ≡ line_contents
    l.script
