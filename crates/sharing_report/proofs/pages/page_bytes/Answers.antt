use Rattle.std.proofs.Common.{◌-◌, ◌∙◌, length, take, drop, leb, ltb, arith, rules, List, length-drop}
use Rattle.std.proofs.lemmas.List.{take_all}
use Rattle.std.proofs.lemmas.List.Sorted.{IsPartitionPoint-from_clause, IsPartitionedBy-leb, IsPartitionedBy-ltb, IsNonDecreasingBy-take}
use Rattle.sharing_report.specs.declared.byte_change.ByteChange.{ByteChange}
use Rattle.sharing_report.proofs.Partition.{page_run}
use Rattle.sharing_report.proofs.pages.page_bytes.Goals as goal

pub returns : goal.returns
returns c =
    let page = c.args.page in
    let bytes : List ByteChange = c.args.bytes.now in
    let prefix : List ByteChange = take c.partition_point.result bytes in
    let up_to = IsPartitionPoint-from_clause (λ byte. leb byte.page page) bytes c.partition_point.result c.partition_point.ensures.partitioned (IsPartitionedBy-leb (λ byte. byte.page) bytes page c.requires) (λ a r f q. search rules) in
    let below = IsPartitionPoint-from_clause (λ byte. ltb byte.page page) prefix c.partition_point-2.result c.partition_point-2.ensures.partitioned (IsPartitionedBy-ltb (λ byte. byte.page) prefix page (IsNonDecreasingBy-take (λ byte. byte.page) c.partition_point.result bytes c.requires)) (λ a r f q. search rules) in
    take_all (length prefix - c.partition_point-2.result) (drop c.partition_point-2.result prefix) (omega (arith, length-drop c.partition_point-2.result prefix))
    ∙ page_run bytes page c.partition_point.result c.partition_point-2.result up_to below
