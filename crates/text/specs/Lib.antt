pub mod Put
pub mod PutLaws
pub mod Scan
pub mod ScanLaws
