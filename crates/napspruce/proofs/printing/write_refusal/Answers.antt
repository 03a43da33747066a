-- One line of three numbers is written: laws `refusal-length` and `refusal-written` of WriteLaws.
use Rattle.napspruce.proofs.WriteLaws.{refusal-length, refusal-written}
use Rattle.napspruce.proofs.printing.write_refusal.Goals as goal

pub returns : goal.returns
returns c =
    record {
      value = refusal-length _ _;
      out_after = refusal-written _ _ c.args.out.now _ (rw (← c.number.ensures, ← c.table_number.ensures) c.write_lines.ensures);
    }
