-- The lines after the last statement: the ledger, its accounts, and the totals.
use Rattle.std.specs.Prelude.{ℕ, List, ◌++◌, codes, decimal}
use Rattle.accounts.specs.declared.record.Record.{Record}
use Rattle.accounts.specs.Marks.{size_text, kind_text, state_text}
use Rattle.ledger.specs.declared.phase.Phase.{Phase}
use Rattle.ledger.specs.declared.phase.Phase.TheVariants.{Between, InPeriod}
use Rattle.desk.specs.declared.totals.UnitTotals.{UnitTotals}
use Rattle.desk.specs.declared.totals.CentTotals.{CentTotals}

abbrev pub phase_line : List ℕ → ℕ → ℕ → ℕ → ℕ → List ℕ
phase_line when closed bank applied fees =
    codes "ledger: " ++ (when
    ++ (codes ", closed " ++ (decimal closed
    ++ (codes ", bank " ++ (decimal bank
    ++ (codes ", applied " ++ (decimal applied ++ (codes ", fees " ++ decimal fees))))))))

-- between periods the applied credits and the fees are 0
abbrev pub ledger_text : Phase → ℕ → ℕ → List ℕ
ledger_text Between closed bank = phase_line (codes "between periods") closed bank 0 0
ledger_text (InPeriod applied fees) closed bank = phase_line (codes "in period") closed bank applied fees

abbrev pub terms_text : Record → List ℕ
terms_text r =
    codes "percentage " ++ (decimal r.percentage
    ++ (codes " savings " ++ (decimal r.savings
    ++ (codes " class " ++ (decimal r.class
    ++ (codes " size " ++ (size_text r.size ++ (codes " kind " ++ kind_text r.kind))))))))

abbrev pub account_text : Record → List ℕ
account_text r =
    codes "account " ++ (decimal r.account
    ++ (codes ": " ++ (terms_text r
    ++ (codes " state " ++ (state_text r.state
    ++ (codes " held " ++ (decimal r.held ++ (codes " last " ++ decimal r.last))))))))

abbrev pub units_text : UnitTotals → List ℕ
units_text t =
    codes "units: read " ++ (decimal t.read
    ++ (codes " used " ++ (decimal t.used
    ++ (codes " forfeited " ++ (decimal t.forfeited ++ (codes " bank " ++ (decimal t.bank ++ (codes " held " ++ decimal t.held))))))))

abbrev pub cents_text : CentTotals → List ℕ
cents_text t =
    codes "cents: applied " ++ (decimal t.applied
    ++ (codes " net " ++ (decimal t.net
    ++ (codes " paid " ++ (decimal t.paid ++ (codes " utility " ++ (decimal t.utility ++ (codes " open " ++ decimal t.open))))))))
