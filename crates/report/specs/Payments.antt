-- What the host is paid for a period, and why.
use Rattle.std.specs.Prelude.{ℕ, ◌-◌, List, ◌++◌, length, codes}
use Rattle.ledger.specs.declared.answer.Settlement.{Settlement}
use Rattle.base.specs.Amounts.{dollars}
use Rattle.report.specs.Tables.{right}
use Rattle.report.specs.declared.payment.Item.{Item}
use Rattle.report.specs.declared.payment.Item.TheVariants as item

-- Each item's cents: anchors pay no fee; members' credit is their net credit and their fees; the host is paid the fees
-- less the utility fee.
abbrev pub cents_of : Item → ℕ → Settlement → ℕ
cents_of item.Applied applied s = applied
cents_of item.ToAnchors applied s = applied - s.applied
cents_of item.ToMembers applied s = s.applied
cents_of item.NetCredit applied s = s.applied - s.fees
cents_of item.Fees applied s = s.fees
cents_of item.UtilityFee applied s = s.utility
cents_of item.Payment applied s = s.payment

-- the label of an item
abbrev pub label_of : Item → List ℕ
label_of item.Applied = codes "Credit applied to satellites"
label_of item.ToAnchors = codes "  less that of excluded anchors, without fee"
label_of item.ToMembers = codes "Credit applied to members"
label_of item.NetCredit = codes "  less their net credit"
label_of item.Fees = codes "Subscription fees"
label_of item.UtilityFee = codes "  less utility fee, 1.5 percent of members' credit"
label_of item.Payment = codes "Paid to the host"

-- how wide a line is, in columns
abbrev pub line_width : ℕ
line_width = 66

-- the label at the left and dollars at the right
abbrev pub payment_text : Item → ℕ → Settlement → List ℕ
payment_text i applied s = label_of i ++ right (line_width - length (label_of i)) (dollars (cents_of i applied s))
