pub mod HostCounts
